pub mod Lists
pub mod Outputs
pub mod TrackerData
pub mod TrackerFacts
pub mod TrackerLaws
pub mod Tracking
pub mod Trust
