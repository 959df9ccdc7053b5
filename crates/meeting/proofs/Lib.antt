-- The laws that belong to no one function
pub mod KidLaws
pub mod StepLaws
pub mod MeetLaws
