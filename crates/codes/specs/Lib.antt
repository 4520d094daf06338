pub mod Operations
pub mod Counter
pub mod Within
