pub mod Forcing
pub mod Finish
