pub mod Batched
pub mod Queries
pub mod Ends
pub mod Merging
pub mod MergeRuns
