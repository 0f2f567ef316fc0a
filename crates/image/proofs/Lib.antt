pub mod Examples
pub mod Cases
pub mod Parts
pub mod Lent
pub mod Inverse
pub mod Older
