pub mod Answers
pub mod Counts
pub mod Limits
pub mod Lists
pub mod Outside
pub mod Saves
pub mod Trees
