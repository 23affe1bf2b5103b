pub mod Buckets
pub mod Counts
pub mod Subtrees
pub mod Clean
pub mod Segments
pub mod Told
pub mod RunCounts
