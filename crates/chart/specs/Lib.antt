pub mod Words
pub mod Env
