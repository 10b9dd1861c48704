pub mod Blocks
pub mod Looks
pub mod Machine
pub mod Order
pub mod Rows
pub mod Steps
