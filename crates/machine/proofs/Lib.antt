pub mod Script
pub mod Examples
pub mod Rings
pub mod Mixed
pub mod Faults
