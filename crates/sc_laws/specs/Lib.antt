pub mod Skips
pub mod Coalesces
pub mod Spreads
pub mod Combines
pub mod SortBounds
