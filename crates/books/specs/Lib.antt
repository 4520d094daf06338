pub mod Kinds
pub mod Narrowings
pub mod CounterBooks
pub mod HalfBooks
pub mod Worked
