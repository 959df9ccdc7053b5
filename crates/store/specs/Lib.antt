pub mod Holds
pub mod Entries
pub mod Bare
