pub mod Edges
pub mod Rings
pub mod Faults
pub mod Seen
