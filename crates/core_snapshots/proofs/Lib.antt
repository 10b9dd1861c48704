pub mod ByNumber
pub mod Sorted
pub mod Pieces
pub mod Seen
pub mod InBuckets
