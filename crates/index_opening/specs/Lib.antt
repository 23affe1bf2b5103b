pub mod Damages
pub mod Opened
pub mod First
pub mod Evidence
