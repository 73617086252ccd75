pub mod Sums
pub mod Amounts
pub mod Logs
pub mod Taking
pub mod Figures
pub mod Proved
