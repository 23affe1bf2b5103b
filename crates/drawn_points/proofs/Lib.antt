mod Pairs
mod Making
mod Bounds
