pub mod CallLaws
pub mod EntryLaws
pub mod PlainLaws
pub mod Laws
