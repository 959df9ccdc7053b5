-- The laws that belong to no one function
pub mod StoreLaws
pub mod SoundLines
pub mod Laws
