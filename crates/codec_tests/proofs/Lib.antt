pub mod SmallTrees
