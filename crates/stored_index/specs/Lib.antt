pub mod Segments
pub mod Stored
pub mod Kept
pub mod Opening
