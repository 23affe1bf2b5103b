pub mod Explained
pub mod Explains
