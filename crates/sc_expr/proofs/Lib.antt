pub mod TypeLemmas
pub mod OutcomeLemmas
pub mod ListLemmas
