pub mod Failure
pub mod Program
