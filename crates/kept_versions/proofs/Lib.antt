pub mod Numbered
pub mod Spots
pub mod Starts
pub mod Kept
pub mod Steps
pub mod StartsOf
pub mod InBucket
