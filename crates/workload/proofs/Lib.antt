pub mod Numbers
pub mod Sizes
pub mod Turns
pub mod Fits
pub mod Scripts
