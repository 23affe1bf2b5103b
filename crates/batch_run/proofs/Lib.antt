mod PartsRead
mod CopiedFiles
mod Held
mod Whole
mod Replied
pub mod Sizes
