pub mod PartLaws
pub mod StretchLaws
