pub mod PartRuns
pub mod Question
pub mod Run
pub mod Store
pub use Rattle.audit_streams.specs.KnownBytes
pub use Rattle.audit_streams.specs.Parts
pub use Rattle.audit_streams.specs.RunError
pub use Rattle.report_text.specs.Answers
