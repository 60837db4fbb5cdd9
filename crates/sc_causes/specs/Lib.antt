pub mod Raises
pub mod Losses
pub mod Inputs
