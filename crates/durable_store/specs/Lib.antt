pub mod Steps
pub mod Owned
pub mod Lengths
pub mod Store
pub mod Uploads
pub mod Carried
pub mod Copied
pub mod Ends
