pub mod Counts
pub mod Unread
pub mod Hits
pub mod Below
