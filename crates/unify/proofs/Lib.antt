-- The laws that belong to no one function
pub mod Closing
pub mod Laws
pub mod RunLaws
pub mod StepLaws
