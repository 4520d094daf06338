pub mod Formats
pub mod Roundings
pub mod Steps
pub mod Laws
pub mod Sizes
pub mod Rounded
