pub mod Writable
pub mod Numbers
pub mod OneList
pub mod OneIndex
