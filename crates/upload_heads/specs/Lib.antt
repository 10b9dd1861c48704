pub mod Table
pub mod Kinds
pub mod Information
pub mod Upload
