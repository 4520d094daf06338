pub mod Boxes
pub mod Intervals
pub mod Walks
