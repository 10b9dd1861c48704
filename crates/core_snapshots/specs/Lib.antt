pub mod Rows
pub mod Visible
pub mod Newest
