-- The answer to a question about the parts of a capture, and the status that goes with it (docs/REPORT.md).
use Rattle.std.specs.Prelude.{◌≡◌, ◌≢◌, ℕ, List, [], ◌∷◌, Result, Ok, Err}
use Rattle.report_text.specs.Answers.{answer, first_fault_line}
use Rattle.audit_judge.specs.declared.piece.Piece.{Piece}
use Rattle.claim_board.specs.declared.workers.Workers.{Workers}
use Rattle.audit_words.specs.declared.request.Question.{Question}
use Rattle.audit_words.specs.declared.request.Question.TheVariants.{Report, FirstFault}
use Rattle.audit_words.specs.declared.request.Request.{Request}
use Rattle.audit_words.specs.Request.{names_of}

-- the request is for the report on the one file of this name, by more than one worker
pub record IsByAll (request : Request) (name : List ℕ) : Type 0 where
  pub workers : Workers
  pub piece : Piece
  pub asks : request.question ≡ Report workers piece
  pub several : workers.number ≢ 1
  pub one : names_of request ≡ name ∷ []

-- The answer to the question about these parts. The numbers of workers and of frames in a piece do not matter.
abbrev pub answer_to : Question → List (List ℕ) → List ℕ
answer_to (Report workers piece) parts = answer parts
answer_to FirstFault parts = first_fault_line parts

-- the status that goes with what was read: 0 with frames, and 2 with a first fault
abbrev pub reading_status : {W F : Type 0} → Result W F → ℕ
reading_status (Ok frames) = 0
reading_status (Err found) = 2
