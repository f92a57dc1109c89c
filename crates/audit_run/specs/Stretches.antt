-- What becomes of an error where a capture is read and reported on in stretches. Any other one is told.
use Rattle.std.specs.Prelude.{Option, Some, None, Result, Ok, Err}
use Rattle.audit_judge.specs.declared.audit_error.AuditError.{AuditError}
use Rattle.audit_judge.specs.declared.audit_error.AuditError.TheVariants.{Memory as WasMemory, Malformed}
use Rattle.streams.specs.declared.run_error.RunError.{RunError}
use Rattle.streams.specs.declared.run_error.RunError.TheVariants.{Memory, Open}

-- a file that can't be opened again is not read in stretches
abbrev pub unless_not_opened : {A : Type 0} → Result (Option A) RunError → Result (Option A) RunError
unless_not_opened (Err Open) = Ok None
unless_not_opened read = read

-- there is no report on parts that have a fault
abbrev pub unless_malformed : {A F : Type 0} → Result A (AuditError F) → Result (Option A) RunError
unless_malformed (Ok text) = Ok (Some text)
unless_malformed (Err WasMemory) = Err Memory
unless_malformed (Err (Malformed found)) = Ok None
