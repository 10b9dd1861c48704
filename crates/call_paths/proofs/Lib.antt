pub mod Reading
pub mod Writing
pub mod Paths
pub mod Routing
