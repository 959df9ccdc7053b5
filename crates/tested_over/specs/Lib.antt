pub mod Inside
pub mod Over
