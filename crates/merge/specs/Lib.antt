pub mod Meaning
pub mod Quick
