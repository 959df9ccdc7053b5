pub mod Store
pub mod Ran
