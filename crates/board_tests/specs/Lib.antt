pub mod SpacedJobs
