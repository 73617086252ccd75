pub mod Overlap
pub mod Touched
pub mod Sums
pub mod Walks
pub mod Counted
pub mod Steps
