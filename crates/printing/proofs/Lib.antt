pub mod Counting
pub mod InARow
pub mod Room
