pub mod Filters
pub mod ComeAndGo
pub mod Stages
pub mod Seen
