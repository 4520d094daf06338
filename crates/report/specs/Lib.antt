pub mod Refused
pub mod Report
pub mod Adding
pub mod Traces
pub mod Concluding
pub mod Picks
