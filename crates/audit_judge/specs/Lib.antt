pub mod Audit
pub mod Pieces
pub mod Jobs
pub mod Judged
pub mod Parts
