pub mod Lines
pub mod Requests
pub mod Refusals
pub mod Reading
pub mod Parts
pub mod Seen
pub mod Replies
