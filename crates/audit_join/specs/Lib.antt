pub mod Processes
pub mod Shares
