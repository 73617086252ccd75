pub mod Wholes
pub mod Counts
pub mod Held
pub mod Moves
