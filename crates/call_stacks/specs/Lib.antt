pub mod Matching
pub mod Verdicts
pub mod Calls
pub mod Matched
pub mod Marks
pub mod Content
