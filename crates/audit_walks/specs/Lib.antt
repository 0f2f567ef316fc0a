pub mod TileWord
pub mod Tests
pub mod Tiles
pub mod Marks
pub mod TileTurn
pub mod FlagTurn
