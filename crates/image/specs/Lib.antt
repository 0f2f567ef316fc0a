pub mod Image
pub mod Ways
pub mod Audits
pub mod Completed
