pub mod Strengths
pub mod Rows
pub mod Handles
pub mod Held
pub mod Nodes
