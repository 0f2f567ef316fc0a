pub mod Keys
pub mod KeysLaws
pub mod KeyTurns
