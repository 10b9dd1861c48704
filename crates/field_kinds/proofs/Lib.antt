pub mod Spelled
pub mod Names
pub mod NoItems
pub mod Infos
pub mod Handed
