pub mod Documents
pub mod Nearest
pub mod Entries
pub mod NearestEntries
