pub mod AsksForToken
