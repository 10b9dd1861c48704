pub mod Faults
pub mod Cuts
pub mod DigitsLemmas
pub mod Numerals
pub mod IdLemmas
