pub mod Items
pub mod Processes
pub mod Oneway
pub mod Concerns
pub mod ProcessLedgers
pub mod EachProcess
