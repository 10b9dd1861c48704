pub mod Lists
pub mod Tables
pub mod Reading
pub mod Sending
pub mod Fronts
pub mod Ready
pub mod Opening
pub mod Loops
