pub mod Items
pub mod Held
pub mod Changes
pub mod Kept
