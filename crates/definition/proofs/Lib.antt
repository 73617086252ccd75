pub mod Weights
pub mod Events
pub mod CutLast
pub mod Bounds
pub mod ListingBound
pub mod Outcomes
pub mod Operands
pub mod RoundTrip
