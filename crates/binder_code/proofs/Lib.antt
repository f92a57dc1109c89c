pub mod FlagBits
pub mod KindOf
pub mod LinesOfKinds
pub mod Names
pub mod WordKinds
pub mod WordLaws
