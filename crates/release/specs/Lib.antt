pub mod Offers
pub mod Release
