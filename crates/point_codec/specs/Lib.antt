pub mod Order
pub mod Points
pub mod Keys
pub mod Names
pub mod Cells
pub mod Seen
