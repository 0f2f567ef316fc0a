pub mod Newcomer
pub mod Keep
pub mod Turns
pub mod Loop
