pub mod Feeds
pub mod Files
