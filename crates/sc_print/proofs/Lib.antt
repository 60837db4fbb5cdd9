pub mod PrintLemmas
pub mod SavedLemmas
pub mod OverLemmas
pub mod EndLemmas
pub mod NextLemmas
