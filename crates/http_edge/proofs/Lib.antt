pub mod Clean
pub mod Ends
pub mod Fronts
pub mod Heads
pub mod Options
pub mod Once
pub mod Receiving
pub mod Texts
