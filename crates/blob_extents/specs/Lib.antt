pub mod Bytes
pub mod Uses
pub mod States
