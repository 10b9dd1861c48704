pub mod Slots
pub mod Rows
pub mod Filled
pub mod CapSets
