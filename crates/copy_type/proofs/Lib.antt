pub mod ApartLaws
pub mod MovedLaws
pub mod SparedLaws
pub mod FillLaws
pub mod NodeLaws
