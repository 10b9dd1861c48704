pub mod Caps
pub mod Sets
pub mod Narrow
