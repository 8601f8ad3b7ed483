-- What planning promises, and a site in the arrays that it works on.
pub mod SiteArrays
pub mod MadePlans
pub mod PlanAnswers
