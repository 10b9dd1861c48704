pub mod Few
pub mod NameRows
pub mod Orders
pub mod PageOf
pub mod PassedOver
pub mod Places
pub mod Unfinished
