pub mod Acts
pub mod Asked
pub mod Pieces
pub mod Talk
