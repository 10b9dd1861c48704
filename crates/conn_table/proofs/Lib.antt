pub mod Heads
pub mod Bounds
pub mod Held
pub mod Steps
pub mod Talks
