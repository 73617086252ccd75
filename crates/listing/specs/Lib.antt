pub mod Cursors
pub mod Calls
pub mod Fields
