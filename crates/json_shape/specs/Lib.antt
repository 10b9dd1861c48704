pub mod Object
pub mod Fields
