pub mod Cuts
pub mod Extents
pub mod Canon
pub mod Pieces
pub mod Leaves
