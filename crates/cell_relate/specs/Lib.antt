pub mod Relations
pub mod Boxes
pub mod BoxLaws
