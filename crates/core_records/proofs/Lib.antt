pub mod Rules
pub mod Conserve
pub mod Steps
pub mod Runs
