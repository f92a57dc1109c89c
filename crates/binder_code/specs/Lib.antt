pub mod Code
pub mod CommandLaws
pub mod Commands
pub mod Flags
pub mod Lines
