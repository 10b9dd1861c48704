pub mod Serials
pub mod Machine
pub mod Uploads
