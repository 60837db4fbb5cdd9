pub mod Host
pub mod Memory
pub mod Pieces
pub mod Writers
pub mod Writing
