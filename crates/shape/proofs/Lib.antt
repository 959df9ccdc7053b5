-- The laws that belong to no one function
pub mod Lists
pub mod Tables
pub mod Walks
pub mod Meets
pub mod Laws
pub mod VisitLaws
