-- Rows of each process in turn (docs/REPORT.md).
use Rattle.std.specs.Prelude.{List, map}
use Rattle.std.specs.List.{flat_map}
use Rattle.capture_frame.specs.declared.process.Process.{Process}
use Rattle.audit_findings.specs.declared.in_turn.ProcessRow.{ProcessRow}

-- a row, with the process that it belongs to
abbrev pub process_row : {R : Type 0} → Process → R → ProcessRow R
process_row process row = record { process = process; row = row }

-- the rows of a process, each with the process
abbrev pub rows_in : {R : Type 0} → (Process → List R) → Process → List (ProcessRow R)
rows_in rows process = map (process_row process) (rows process)

-- the rows of each of these processes in turn
abbrev pub in_turn : {R : Type 0} → (Process → List R) → List Process → List (ProcessRow R)
in_turn rows processes = flat_map (rows_in rows) processes
