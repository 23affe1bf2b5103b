pub mod Listing
pub mod Bare
