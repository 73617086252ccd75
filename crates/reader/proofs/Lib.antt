pub mod Rooms
pub mod Places
pub mod Parts
pub mod Turns
pub mod Sound
pub mod Replies
pub mod Calls
