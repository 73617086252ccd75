pub mod Kept
pub mod Proved
