pub mod Information
pub mod Buckets
pub mod Files
pub mod Listings
pub mod Made
pub mod Call
