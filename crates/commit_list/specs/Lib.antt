pub mod Commits
pub mod Layout
pub mod CommitFiles
pub mod Seen
