pub mod Board
pub mod Orders
pub mod Running
pub mod Steps
pub mod Work
pub mod Results
