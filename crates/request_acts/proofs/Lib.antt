pub mod Numbers
pub mod Heads
pub mod Doing
pub mod Made
