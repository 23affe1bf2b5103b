pub mod Outlines
pub mod Nodes
pub mod Trees
pub mod Levels
