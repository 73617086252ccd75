pub mod Specs
pub mod Operands
pub mod Logs
pub mod Lent
pub mod Bits
