mod Hands
mod Loads
mod Present
