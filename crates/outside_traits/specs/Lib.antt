pub mod Causes
pub mod Bytes
pub mod Memory
pub mod Given
pub mod Lists
pub mod Links
