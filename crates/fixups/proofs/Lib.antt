pub mod Opcodes
pub mod Answers
pub mod Narrow
pub mod Complex
pub mod Faults
