pub mod Verdicts
pub mod Tallies
pub mod Walks
pub mod Traces
