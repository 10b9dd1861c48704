pub mod Each
pub mod Agree
