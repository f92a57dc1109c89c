pub mod Pending
pub mod Requests
pub mod KeyEvents
pub mod Sums
