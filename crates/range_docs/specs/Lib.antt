pub mod Ranges
pub mod Refusals
pub mod Reading
pub mod Seen
pub mod Replies
