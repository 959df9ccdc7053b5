pub mod Read
pub mod Asks
