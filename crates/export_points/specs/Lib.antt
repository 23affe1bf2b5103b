pub mod Exported
pub mod Ends
