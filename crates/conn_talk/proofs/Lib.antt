pub mod Came
pub mod Cuts
pub mod Once
pub mod Stays
pub mod Turns
