pub mod Request
pub mod CommandLine
pub mod Failure
pub mod Words
