-- The laws that belong to no one function
pub mod RunLaws
pub mod MarkedLaws
