pub mod Order
pub mod Rows
pub mod Cap
pub mod CapSet
pub mod CallName
pub mod FaultKind
pub mod FileKind
