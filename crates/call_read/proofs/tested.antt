-- The laws that belong to no one function
pub mod Laws
pub mod NameLaws
