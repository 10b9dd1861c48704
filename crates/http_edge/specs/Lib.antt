pub mod Cut
pub mod Headers
pub mod Length
pub mod Stay
pub mod Request
pub mod Received
pub mod Reply
pub mod Steps
