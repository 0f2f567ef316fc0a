pub mod Walk
pub mod Members
pub mod WalkTurn
pub mod RingTurn
