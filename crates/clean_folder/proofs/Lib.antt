mod Removal
mod Counting
mod Ending
