pub mod Drawn
pub mod Ids
pub mod Pages
pub mod Numbers
