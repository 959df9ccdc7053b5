pub mod Roots
pub mod Sums
pub mod Sources
