pub mod Front
pub mod Replace
pub mod KeepLaws
pub mod BackLaws
