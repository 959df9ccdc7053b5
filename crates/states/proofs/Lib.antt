pub mod FreeLaws
pub mod HoldLaws
pub mod NameLaws
pub mod ReturnLaws
