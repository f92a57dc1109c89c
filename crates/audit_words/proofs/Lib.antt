pub mod RequestLemmas
pub mod WordWalk
pub mod WordLaws
