pub mod Ordered
pub mod First
pub mod Listed
pub mod Evident
pub mod ListedShows
pub mod Named
pub mod LeafEvident
pub mod Whole
