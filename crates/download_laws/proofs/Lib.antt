pub mod Spans
pub mod Plans
pub mod Sent
