pub mod Ends
pub mod Sent
pub mod Causes
pub mod Stops
pub mod Texts
pub mod Told
