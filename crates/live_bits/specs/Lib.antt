pub mod LiveSet
pub mod LiveBody
pub mod Refusal
