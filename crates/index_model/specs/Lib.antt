pub mod State
pub mod Step
pub mod Script
pub mod Sessions
