pub mod Cut
pub mod Grammar
