pub mod Fields
pub mod Bits
pub mod Laws
