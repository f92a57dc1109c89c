pub mod Sizes
pub mod SideBySide
pub mod FrameEvents
pub mod RecordAt
