pub mod Decided
pub mod Refusals
pub mod Terms
pub mod Bodies
