pub mod Merges
pub mod Promises
pub mod Rows
pub mod Trust
pub mod Strength
