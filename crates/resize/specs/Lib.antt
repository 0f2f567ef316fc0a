pub mod States
pub mod Finish
pub mod Widen
pub mod Grow
pub mod Moved
pub mod Ways
