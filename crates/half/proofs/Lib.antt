pub mod Cells
pub mod Placed
