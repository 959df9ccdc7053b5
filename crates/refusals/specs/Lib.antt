pub mod Codes
pub mod Opening
