pub mod NotInStretches
pub mod TwoFiles
