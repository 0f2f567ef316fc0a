pub mod Repair
pub mod RepairCall
pub mod Told
pub mod Cleared
