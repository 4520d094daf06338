pub mod Spans
pub mod Choices
pub mod Meanings
pub mod Windows
