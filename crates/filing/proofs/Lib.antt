pub mod Pushing
pub mod Reading
