pub mod View
pub mod GivenUp
pub mod Uploads
pub mod GivenTokens
