-- What workers find when they judge frames, a piece at a time.
use Rattle.std.specs.Prelude.{◌≡◌, List, Some, ⊤}
use Rattle.capture_frame.specs.declared.fault.Fault.{Fault}
use Rattle.capture_frame.specs.Envelope.{PlacedFrame}
use Rattle.transaction_view.specs.Grammar.{first_content_fault}
use Rattle.claim_board.specs.declared.run.Stop.{Stop}
use Rattle.claim_board.specs.declared.run.Stop.TheVariants.{Least, Memory}
use Rattle.audit_judge.specs.declared.audit_error.AuditError.{AuditError}
use Rattle.audit_judge.specs.declared.audit_error.AuditError.TheVariants as error
use Rattle.audit_judge.specs.Jobs.{first_place}

-- the error names the first fault of these frames' records and entries; if memory was refused, nothing is said
abbrev pub IsFirstError : List PlacedFrame → AuditError Fault → Type 0
IsFirstError frames error.Memory = ⊤
IsFirstError frames (error.Malformed fault) = first_content_fault frames ≡ Some fault

-- if workers stopped at a place, this is the place of the first fault of these frames' records and entries; if memory
-- was refused, nothing is said
abbrev pub IsLeastOf : List PlacedFrame → Stop → Type 0
IsLeastOf frames (Least place) = first_place frames ≡ Some place
IsLeastOf frames Memory = ⊤
