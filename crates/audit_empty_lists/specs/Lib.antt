pub mod Runs
pub mod Skips
