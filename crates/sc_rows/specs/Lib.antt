pub mod Jobs
pub mod Worlds
