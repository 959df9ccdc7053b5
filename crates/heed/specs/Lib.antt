pub mod Recalls
pub mod Told
