pub mod Records
pub mod Halves
