pub mod Ascii
pub mod Folders
pub mod Escapes
pub mod Infos
pub mod Back
