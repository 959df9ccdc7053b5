pub mod Answers
pub mod Impls
pub mod Texts
