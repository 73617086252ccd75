pub mod Merging
pub mod Counts
pub mod Numbers
pub mod Tables
pub mod Trust
pub mod Strength
pub mod Proved
