pub mod Found
pub mod Kept
pub mod Nil
pub mod StaysLent
