pub mod Checking
pub mod Calls
pub mod Commands
pub mod Headline
