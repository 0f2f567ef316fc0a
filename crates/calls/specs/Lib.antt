pub mod Blank
pub mod Ways
pub mod Through
pub mod Grants
pub mod Resizes
