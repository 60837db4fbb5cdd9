pub mod CallLemmas
mod LoopLemmas
pub mod NameLemmas
pub mod ReadyLemmas
pub mod SavedLemmas
mod WithinLemmas
