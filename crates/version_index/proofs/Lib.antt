pub mod Changes
pub mod Members
pub mod Orders
pub mod Seeks
pub mod Walks
