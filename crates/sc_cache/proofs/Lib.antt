pub mod CacheLemmas
pub mod LawLemmas
