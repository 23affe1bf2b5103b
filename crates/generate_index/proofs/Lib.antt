pub mod Fewer
pub mod Making
pub mod Sums
pub mod Ended
