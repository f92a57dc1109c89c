pub mod Counting
pub mod KeyLaws
pub mod HandleLaws
pub mod HeldLaws
pub mod NodeLaws
