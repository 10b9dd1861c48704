pub mod Rules
pub mod Plans
pub mod Names
pub mod Buckets
