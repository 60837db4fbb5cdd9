pub mod Chains
pub mod Folds
pub mod Given
pub mod Slices
