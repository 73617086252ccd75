pub mod Needs
pub mod Judging
pub mod Promises
pub mod Rows
