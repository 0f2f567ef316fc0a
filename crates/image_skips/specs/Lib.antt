pub mod Skips
pub mod SkipsLaws
pub mod SkipTurns
