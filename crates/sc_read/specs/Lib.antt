pub mod Naming
pub mod Reads
pub mod Files
pub mod Scripts
pub mod Plans
pub mod Inputs
