pub mod Visits
pub mod Calls
pub mod Rooms
