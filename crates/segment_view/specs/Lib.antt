pub mod LiveSegments
pub mod Held
pub mod Costs
pub mod Found
pub mod Calm
pub mod Damages
pub mod Marks
pub mod Unhidden
