pub mod Lists
pub mod Singles
pub mod Rooms
pub mod Turns
pub mod Calls
pub mod Tables
pub mod Proved
