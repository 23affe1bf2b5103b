pub mod Queries
pub mod Copies
pub mod Held
pub mod Residents
