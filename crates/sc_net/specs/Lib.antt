pub mod Shelves
pub mod Tasks
pub mod Equality
pub mod Reports
