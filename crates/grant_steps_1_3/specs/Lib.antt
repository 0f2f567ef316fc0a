pub mod Moves
pub mod Tests
pub mod Heads
pub mod Lasts
pub mod Steps
