pub mod Refusals
pub mod Copied
