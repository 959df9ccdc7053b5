-- The laws that belong to no one function
pub mod TextLaws
pub mod ShowLaws
