pub mod Parts
pub mod Names
mod Copies
mod Finds
mod FileLists
mod OpenLists
