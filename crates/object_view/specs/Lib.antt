pub mod Fields
pub mod Held
pub mod Objects
pub mod Reading
pub mod State
pub mod Laws
