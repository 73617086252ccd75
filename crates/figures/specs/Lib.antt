pub mod Counts
pub mod Promises
pub mod Rows
