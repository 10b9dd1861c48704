pub mod Sequence
pub mod Requests
pub mod Workload
