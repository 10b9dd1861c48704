pub mod Answering
pub mod Doing
