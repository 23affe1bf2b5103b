pub mod Cleaned
