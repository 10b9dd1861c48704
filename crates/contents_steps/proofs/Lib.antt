pub mod Records
pub mod Replays
pub mod Brought
pub mod Copied
pub mod Stands
