-- The laws that belong to no one function
pub mod Lists
pub mod Cells
pub mod Laws
pub mod ChildLaws
pub mod KindLaws
pub mod HeldLaws
pub mod LinkLaws
pub mod StoreLaws
