pub mod Drain
pub mod AnyFast
