pub mod ListLaws
pub mod LastLaws
pub mod KeyLaws
pub mod SumLaws
pub mod PendingLaws
pub mod RequestLaws
