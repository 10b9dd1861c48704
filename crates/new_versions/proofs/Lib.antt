pub mod Pairs
pub mod Extensions
pub mod Decisions
