pub mod Changes
pub mod Walked
