pub mod Cuts
pub mod Lengths
