-- The laws that belong to no one function
pub mod Geometry
pub mod Parts
pub mod Places
pub mod Names
pub mod Search
pub mod Laws
