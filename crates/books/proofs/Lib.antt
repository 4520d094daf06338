pub mod Threes
pub mod Twos
pub mod Once
pub mod Travels
