pub mod Ends
pub mod Replayed
pub mod ReplayedVersions
pub mod Snapshots
