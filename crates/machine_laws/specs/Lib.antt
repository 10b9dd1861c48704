pub mod Ranges
pub mod Rules
pub mod Details
pub mod Days
