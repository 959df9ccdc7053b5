pub mod Each
pub mod Room
pub mod Once
