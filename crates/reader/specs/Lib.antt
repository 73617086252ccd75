pub mod Places
pub mod Held
pub mod Items
pub mod Chunks
