pub mod Sha1OnLiterals
pub mod Sha256OnLiterals
