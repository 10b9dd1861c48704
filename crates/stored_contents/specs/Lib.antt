pub mod Room
pub mod Changes
pub mod Held
pub mod Reads
pub mod Sealed
pub mod Causes
