pub mod Packing
pub mod Ordered
pub mod Told
pub mod Holding
pub mod Proved
