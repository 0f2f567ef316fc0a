pub mod Taken
pub mod Carving
