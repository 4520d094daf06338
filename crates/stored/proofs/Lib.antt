pub mod Walks
pub mod Writes
pub mod Rounds
pub mod Chains
