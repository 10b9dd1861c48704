pub mod Line
pub mod Script
pub mod Reading
pub mod Shown
