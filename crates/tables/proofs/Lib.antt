pub mod Marks
pub mod Models
pub mod Counts
