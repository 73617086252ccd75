pub mod Blocks
pub mod Bits
pub mod Rows
pub mod Promises
