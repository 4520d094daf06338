pub mod Attempts
pub mod Rounds
pub mod RuleSets
pub mod Turns
pub mod Wakes
