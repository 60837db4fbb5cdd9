pub mod Deals
pub mod Groupings
pub mod Crossings
pub mod Spans
pub mod Combining
pub mod IntFolds
pub mod Outputs
