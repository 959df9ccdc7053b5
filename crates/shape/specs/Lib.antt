pub mod Walks
pub mod Read
pub mod Asks
