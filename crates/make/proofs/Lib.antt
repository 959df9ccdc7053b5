-- The laws that belong to no one function
pub mod Blank
pub mod Laws
pub mod OpenLaws
pub mod MakeLaws
pub mod VarLaws
pub mod NewLaws
