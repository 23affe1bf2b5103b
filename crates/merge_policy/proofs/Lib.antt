mod Few
mod Front
mod Levels
mod Only
