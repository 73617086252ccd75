pub mod Halves
pub mod Sums
pub mod NoPlace
pub mod Signs
