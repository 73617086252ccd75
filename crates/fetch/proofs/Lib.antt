pub mod Held
pub mod Specs
pub mod Lists
pub mod Parts
pub mod Records
pub mod Walks
pub mod Few
pub mod Proved
