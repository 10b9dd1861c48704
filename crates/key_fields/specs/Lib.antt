pub mod Capabilities
pub mod Limits
pub mod Keys
