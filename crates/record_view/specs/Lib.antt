pub mod Records
pub mod State
