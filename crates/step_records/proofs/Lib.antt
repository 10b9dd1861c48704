pub mod Passed
pub mod Changed
pub mod Outcomes
pub mod Steps
pub mod Logs
pub mod Told
pub mod Fronts
