pub mod Histories
pub mod Bigger
pub mod Editions
