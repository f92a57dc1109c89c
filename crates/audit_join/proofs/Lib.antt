pub mod LookJobs
pub mod SumLaws
