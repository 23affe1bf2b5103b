pub mod Cursor
pub mod Vint
