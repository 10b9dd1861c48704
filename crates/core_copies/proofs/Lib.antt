pub mod Made
pub mod OnCopies
