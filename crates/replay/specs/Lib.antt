pub mod Calls
pub mod Cases
pub mod Left
pub mod Parts
