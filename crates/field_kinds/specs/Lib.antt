pub mod Reader
pub mod Spelled
pub mod Kinds
pub mod Info
pub mod Rules
pub mod Offered
pub mod Kept
