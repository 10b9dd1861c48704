pub mod Holes
pub mod Room
pub mod Runs
