pub mod Hands
pub mod Endings
pub mod Tended
pub mod Desks
pub mod Plays
pub mod Effects
