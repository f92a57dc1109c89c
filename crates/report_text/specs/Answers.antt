-- The answers to questions about a capture that is read in parts (docs/REPORT.md, docs/ENVELOPE.md).
use Rattle.std.specs.Prelude.{ℕ, List, length, Ok, Err}
use Rattle.transaction_view.specs.Grammar.{frames_of_parts}
use Rattle.audit_findings.specs.Findings.{findings_of}
use Rattle.report_text.specs.Fault.{part_fault_line, no_fault_line}
use Rattle.report_text.specs.Text.{report_text}

-- the answer to the parts of a capture: the report on their frames, or the line that names their first fault
abbrev pub answer : List (List ℕ) → List ℕ
answer parts = elim (frames_of_parts parts) [
  | Ok frames ↦ report_text (findings_of frames)
  | Err found ↦ part_fault_line (length parts) found
]

-- the line of `first-fault` on the parts of a capture: it says that there is no fault, or names the first one
abbrev pub first_fault_line : List (List ℕ) → List ℕ
first_fault_line parts = elim (frames_of_parts parts) [
  | Ok frames ↦ no_fault_line
  | Err found ↦ part_fault_line (length parts) found
]
