pub mod Lists
pub mod Walks
pub mod Compared
pub mod Proved
