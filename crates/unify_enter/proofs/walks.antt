-- The laws that belong to no one function
pub mod Kept
pub mod Laws
pub mod SmallLaws
