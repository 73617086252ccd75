pub mod Bits
pub mod Joined
