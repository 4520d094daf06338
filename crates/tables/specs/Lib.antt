pub mod Edits
pub mod Marks
pub mod Reads
pub mod Rooms
pub mod States
pub mod Views
