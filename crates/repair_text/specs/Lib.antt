pub mod Changes
pub mod ChangesTurn
pub mod RepairText
pub mod Mends
pub mod MendLaws
