-- The three demands hold, rounds repeat, idling is not free, a plan has one spelling, the window test keeps a running sum, what touches
-- a span is listed, handover marks cut intervals, one plan serves many boards, the check has two halves,
-- parameters alter the tables, plans are short, and the job nearest to trouble is listed first.
pub mod SiteParts
pub mod SameSites
pub mod PlanRefusals
pub mod ThreeDemands
pub mod RepeatedRounds
pub mod IdlingIsNotFree
pub mod OneSpelling
pub mod RunningSums
pub mod TouchedMembers
pub mod TouchedSpans
pub mod HandoverMarks
pub mod ManyBoards
pub mod TwoHalves
pub mod SiteParameters
pub mod SameLoads
pub mod ShortPlans
pub mod MostCycles
pub mod NearestToTrouble
