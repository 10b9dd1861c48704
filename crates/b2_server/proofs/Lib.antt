pub mod Begun
pub mod Tokens
pub mod FirstPath
pub mod Told
pub mod Once
pub mod Runs
