pub mod PlaceLaws
pub mod Laws
pub mod CallLaws
