pub mod Types
pub mod Chart
pub mod Nodes
pub mod Roots
pub mod Book
pub mod Recall
pub mod Sound
