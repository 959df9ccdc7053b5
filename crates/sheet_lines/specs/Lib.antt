pub mod Places
pub mod Meaning
