pub mod Found
pub mod First
pub mod Checked
pub mod Informed
