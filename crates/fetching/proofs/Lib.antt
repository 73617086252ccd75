pub mod Members
pub mod Alone
pub mod Judged
pub mod Named
pub mod Lost
pub mod Spare
pub mod Tables
pub mod Proved
