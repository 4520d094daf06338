pub mod Adding
pub mod Rows
pub mod Traces
pub mod Once
