pub mod Metadata
pub mod Copies
