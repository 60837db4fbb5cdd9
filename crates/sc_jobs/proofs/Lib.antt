pub mod NodeLemmas
pub mod InputLemmas
pub mod StageLemmas
pub mod PlanLemmas
pub mod KnownLemmas
pub mod TrackerLemmas
pub mod SortLemmas
pub mod EqualLemmas
