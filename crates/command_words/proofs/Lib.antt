mod Finds
mod Names
mod Numbers
mod Ranges
mod Refusals
