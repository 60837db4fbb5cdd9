pub mod CommitLemmas
pub mod LawLemmas
