pub mod Asking
mod Counted
mod Scoped
mod Answering
mod Telling
mod Stopping
