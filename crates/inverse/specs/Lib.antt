pub mod Judged
pub mod Marked
