pub mod Caches
pub mod CacheLaws
pub mod CacheLends
