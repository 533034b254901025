pub mod Feeds
pub mod Joined
