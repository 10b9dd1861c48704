pub mod Decided
pub mod Grammar
pub mod Ends
pub mod Routes
pub mod Come
pub mod Worlds
