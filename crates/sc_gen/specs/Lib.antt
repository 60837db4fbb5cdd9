pub mod Script
pub mod Workload
