pub mod Looking
pub mod Looked
pub mod Opening
