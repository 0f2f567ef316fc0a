pub mod Pages
pub mod Text
pub mod Texts
