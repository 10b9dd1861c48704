pub mod Locked
pub mod Visible
