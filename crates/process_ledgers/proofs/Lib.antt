pub mod OnewayLaws
pub mod ItemPlaces
pub mod FitLaws
pub mod EachProcess
