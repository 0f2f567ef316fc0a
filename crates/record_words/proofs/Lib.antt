pub mod Passed
