pub mod ContentsOf
