pub mod Asks
pub mod Seen
pub mod Texts
pub mod Counted
pub mod Counts
