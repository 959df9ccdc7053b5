pub mod Asks
pub mod Steps
pub mod Meets
pub mod Kids
