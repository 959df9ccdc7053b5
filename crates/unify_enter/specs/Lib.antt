pub mod Leaves
pub mod Walk
pub mod Asked
pub mod Enters
