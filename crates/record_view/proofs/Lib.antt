pub mod UnitLaws
pub mod RecordLaws
pub mod Vectors
