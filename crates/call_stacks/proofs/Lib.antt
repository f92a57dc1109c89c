pub mod Model
pub mod Counting
pub mod MarkLaws
pub mod Bracketing
pub mod Kept
pub mod Lists
pub mod Found
mod Latest
pub mod Steps
pub mod Sums
pub mod Joins
pub mod JoinedMatch
pub mod Retold
pub mod Unmarked
