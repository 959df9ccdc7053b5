-- The laws that belong to no one function
pub mod MakerLaws
pub mod FindLaws
pub mod Laws
