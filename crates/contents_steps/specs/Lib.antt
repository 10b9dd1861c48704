pub mod Copies
pub mod Turns
pub mod Entries
