pub mod Digits
pub mod Decimal
pub mod Failure
pub mod BucketId
pub mod FileId
pub mod Bytes
