pub mod Attempts
pub mod Changes
pub mod Failures
pub mod Graphs
pub mod LimitDefaults
pub mod LimitRanges
