pub mod RootLaws
pub mod CountLaws
pub mod SourceLaws
