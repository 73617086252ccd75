pub mod Sessions
pub mod Words
pub mod Rows
pub mod Promises
