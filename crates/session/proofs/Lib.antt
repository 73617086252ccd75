pub mod Sums
pub mod Walks
pub mod Visited
pub mod Kept
pub mod Tables
pub mod Proved
