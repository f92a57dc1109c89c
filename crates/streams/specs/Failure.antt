-- The failures that end the program without an answer: their statuses and their lines (docs/REPORT.md).
use Rattle.std.specs.Prelude.{ℕ, List, [], ◌∷◌, ◌++◌, codes}
use Rattle.streams.specs.declared.run_error.RunError.TheVariants.{Memory, TooLarge, Read, Write, Open}
use Rattle.streams.specs.RunError.{error_line}
use Rattle.streams.specs.declared.failure.Failure.{Failure}
use Rattle.streams.specs.declared.failure.Failure.TheVariants.{Usage, Run}

-- the status that a failure ends the process with
abbrev pub status_of : Failure → ℕ
status_of Usage = 64
status_of (Run Memory) = 3
status_of (Run TooLarge) = 4
status_of (Run Read) = 4
status_of (Run Write) = 4
status_of (Run Open) = 4

-- the line of a failure on standard error, with its line feed
abbrev pub line_of : Failure → List ℕ
line_of Usage = codes "usage: binder_audit report [--workers N] [--piece N] FILE... or first-fault FILE..." ++ 10 ∷ []
line_of (Run error) = error_line error
