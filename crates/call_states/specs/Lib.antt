pub mod Promise
pub mod Places
