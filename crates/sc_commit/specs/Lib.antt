pub mod CommitFacts
pub mod CommitLaws
pub mod Committers
pub mod Committing
