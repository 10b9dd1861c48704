pub mod Rows
pub mod RulesRead
pub mod Ranges
pub mod Bodies
pub mod Calls
pub mod UploadLengths
pub mod Routed
