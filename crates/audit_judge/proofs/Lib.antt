pub mod PieceLaws
pub mod JobLaws
pub mod CutLaws
pub mod PlaceLaws
pub mod FaultLaws
mod ShareLaws
