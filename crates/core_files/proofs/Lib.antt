pub mod Answered
pub mod OnHides
pub mod OnLarge
pub mod OnDownloads
