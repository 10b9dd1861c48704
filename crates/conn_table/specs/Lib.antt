pub mod Ends
pub mod Heads
pub mod Incoming
pub mod Table
