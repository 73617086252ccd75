pub mod Values
pub mod Banks
pub mod Files
pub mod Told
