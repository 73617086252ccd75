pub mod Walk
pub mod Shapes
