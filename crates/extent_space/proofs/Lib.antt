mod Cuts
mod Fits
mod Joins
pub mod OneRoom
mod Raises
mod Returns
mod Rooms
pub mod Runs
pub mod Takes
mod Told
pub mod Used
mod Views
