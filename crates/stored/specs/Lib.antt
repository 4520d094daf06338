pub mod Records
pub mod Faults
pub mod Loads
pub mod Stores
pub mod Chains
