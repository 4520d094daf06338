pub mod Spans
pub mod Smallest
