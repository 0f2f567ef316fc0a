pub mod Reached
pub mod Laws
pub mod ReachTurn
pub mod Tiled
