pub mod Stands
pub mod Tables
