pub mod Cuts
pub mod Streams
pub mod Rows
pub mod Promises
