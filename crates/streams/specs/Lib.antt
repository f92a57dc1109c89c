pub mod Failure
pub mod KnownBytes
pub mod Parts
pub mod RunError
pub mod Stretches
