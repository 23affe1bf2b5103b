pub mod Generates
