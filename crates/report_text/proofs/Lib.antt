pub mod Hexadecimal
pub mod Pushes
pub mod Sections
pub mod Listed
mod Payloads
pub mod Vectors
mod FaultLines
