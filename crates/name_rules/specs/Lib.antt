pub mod Bytes
pub mod BucketName
pub mod FileName
pub mod Escape
pub mod Decode
pub mod Folder
pub mod InfoPairs
