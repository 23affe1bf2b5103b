pub mod Ends
pub mod Boxes
pub mod ReadEnds
pub mod Added
pub mod AddRead
pub mod Sound
