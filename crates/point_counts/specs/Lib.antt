pub mod Grids
pub mod Costs
pub mod Tables
