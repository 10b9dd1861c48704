pub mod Agree
pub mod Naming
