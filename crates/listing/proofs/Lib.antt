pub mod Writing
pub mod Walking
pub mod Calls
pub mod Narrow
