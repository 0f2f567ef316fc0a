pub mod States
pub mod Lines
pub mod Shown
pub mod Heaps
pub mod Lent
