pub mod Rounds
pub mod RuleSets
pub mod Snapshots
pub mod Wakes
