-- The laws that belong to no one function
mod Laws
pub mod Runs
mod Level
pub mod Turns
