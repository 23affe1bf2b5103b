pub mod Commanding
pub mod Headlines
pub mod Opened
pub mod Promised
pub mod Finished
pub mod Verdict
