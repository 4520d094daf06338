pub mod Halving
pub mod Staircase
pub mod Bands
