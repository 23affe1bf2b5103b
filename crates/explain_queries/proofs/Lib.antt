pub mod Explaining
pub mod ShapesTold
pub mod There
pub mod Nearby
pub mod Asking
pub mod Scoped
mod Fitting
mod Sizes
