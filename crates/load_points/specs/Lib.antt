pub mod Loaded
pub mod Loads
