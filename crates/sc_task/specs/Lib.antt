pub mod Cursors
pub mod Nexts
pub mod Handing
pub mod States
pub mod Caches
pub mod Steps
pub mod Attempts
