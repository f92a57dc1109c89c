-- What an audit answers.
use Rattle.std.specs.Prelude.{◌≡◌, ℕ, List, [], ◌∷◌, Err, ⊤}
use Rattle.capture_frame.specs.declared.fault.Fault.{Fault}
use Rattle.capture_frame.specs.declared.fault.PartFault.{PartFault}
use Rattle.transaction_view.specs.Grammar.{frames_of_parts}
use Rattle.audit_judge.specs.declared.audit_error.AuditError.{AuditError}
use Rattle.audit_judge.specs.declared.audit_error.AuditError.TheVariants.{Memory, Malformed}

-- if the error names a fault, this is the first fault of the parts; if memory was refused, nothing is said
abbrev pub AreMalformed : List (List ℕ) → AuditError PartFault → Type 0
AreMalformed parts Memory = ⊤
AreMalformed parts (Malformed found) = frames_of_parts parts ≡ Err found

-- if the error names a fault, this is the first fault of the capture; if memory was refused, nothing is said
abbrev pub IsMalformed : List ℕ → AuditError Fault → Type 0
IsMalformed capture Memory = ⊤
IsMalformed capture (Malformed fault) = frames_of_parts (capture ∷ []) ≡ Err (record { part = 1; fault = fault })

-- the error of a single part, as the error of a capture: the number of the part is left out
abbrev pub error_of_capture : AuditError PartFault → AuditError Fault
error_of_capture Memory = Memory
error_of_capture (Malformed found) = Malformed found.fault
