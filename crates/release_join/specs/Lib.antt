pub mod Reads
pub mod States
pub mod Ahead
pub mod Parts
pub mod Join
