pub mod Basic
pub mod Body
