pub mod OnListings
pub mod Standing
pub mod ShownRows
