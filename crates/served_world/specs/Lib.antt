pub mod Replies
pub mod World
pub mod Served
pub mod Laws
