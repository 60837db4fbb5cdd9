pub mod Done
pub mod Laws
pub mod Opening
pub mod Outputs
pub mod Parts
pub mod Renewal
pub mod StagingData
