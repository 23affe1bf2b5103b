pub mod Numbers
pub mod Vints
pub mod Partway
pub mod SpelledVints
pub mod Lists
