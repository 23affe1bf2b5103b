pub mod Promises
pub mod Looks
pub mod Opens
