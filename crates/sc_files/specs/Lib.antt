pub mod Calls
pub mod Host
pub mod Listed
pub mod Memory
