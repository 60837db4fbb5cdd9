pub mod Calls
pub mod Commits
pub mod Ends
pub mod NameLaws
pub mod Names
pub mod Saved
