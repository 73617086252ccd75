pub mod Partings
pub mod Promises
pub mod Rows
