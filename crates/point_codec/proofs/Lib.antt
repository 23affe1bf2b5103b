pub mod Corners
pub mod Distances
pub mod Halves
pub mod KeyOrder
pub mod LeastCells
pub mod Ordered
pub mod Sizes
