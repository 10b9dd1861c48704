pub mod Finds
pub mod Flights
pub mod Laws
