pub mod Memory
pub mod Places
pub mod Own
