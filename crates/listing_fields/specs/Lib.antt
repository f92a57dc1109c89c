pub mod Content
pub mod Errors
pub mod Frames
pub mod Interface
pub mod Service
