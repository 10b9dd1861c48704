pub mod Escapes
pub mod Others
pub mod Uploads
pub mod Askings
