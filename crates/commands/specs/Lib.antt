pub mod Words
pub mod Numbers
pub mod Verbs
pub mod Meaning
pub mod Values
pub mod Replies
pub mod Prints
