pub mod GivenUp
pub mod Steps
pub mod Applied
