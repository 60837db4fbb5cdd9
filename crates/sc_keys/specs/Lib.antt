pub mod Keyed
pub mod Codes
pub mod Groups
pub mod Splits
pub mod Laws
pub mod Lent
