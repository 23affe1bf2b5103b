pub mod Best
pub mod Segments
pub mod Fronts
pub mod Search
pub mod Dead
pub mod Parted
pub mod Found
