pub mod Laws
pub mod Readback
