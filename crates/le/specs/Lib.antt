pub mod Number
pub mod NumberLaws
pub mod WordsLaws
pub mod Arena
pub mod ArenaLaws
