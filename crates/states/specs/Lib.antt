pub mod Ready
pub mod Free
