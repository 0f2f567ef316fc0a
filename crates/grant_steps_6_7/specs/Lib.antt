pub mod Finds
pub mod Falling
pub mod Backward
pub mod Following
