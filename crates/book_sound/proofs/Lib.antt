-- The laws that belong to no one function
pub mod PlaceLaws
pub mod NameLaws
pub mod Laws
