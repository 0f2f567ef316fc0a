pub mod Step4
pub mod Chain
pub mod Ways
pub mod Top
pub mod FromCache
