pub mod AnswerLaws
pub mod RunLaws
pub mod StretchRunLaws
