-- The three demands, for a reader who reads nothing else; rounds that repeat, idling that is not free, one spelling of a plan, the
-- running sum of the window test, what touches a span, handover marks, one plan for many boards, the check in two halves, site
-- parameters, short plans and the job nearest to trouble, over the calls.
pub mod ThreeDemands
pub mod RepeatedRounds
pub mod IdlingIsNotFree
pub mod OneSpelling
pub mod RunningSums
pub mod TouchedSpans
pub mod HandoverMarks
pub mod ManyBoards
pub mod TwoHalves
pub mod SiteParameters
pub mod ShortPlans
pub mod NearestToTrouble
