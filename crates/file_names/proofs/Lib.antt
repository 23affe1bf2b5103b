pub mod Listed
mod Numbers
