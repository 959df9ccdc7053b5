pub mod PlaceLaws
pub mod StepLaws
