pub mod Made
pub mod Given
pub mod Header
pub mod Once
