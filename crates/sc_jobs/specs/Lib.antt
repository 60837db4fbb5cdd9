pub mod JobData
pub mod Equality
pub mod Known
pub mod Plans
pub mod Fitting
pub mod JobLaws
