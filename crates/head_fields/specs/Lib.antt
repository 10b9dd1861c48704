pub mod Query
pub mod Token
pub mod Downloads
