pub mod Logs
pub mod Folds
pub mod Endings
