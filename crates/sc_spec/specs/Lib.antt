pub mod Speculation
