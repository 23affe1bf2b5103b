pub mod Names
pub mod Series
