use Rattle.std.proofs.Common.{◌≡◌, ◌++◌, map, take}
use Rattle.audit_findings.specs.InTurn.{process_row}
use Rattle.audit_findings.proofs.in_turn.push_rows_of.Given as goal

-- the rows so far follow those that were there
abbrev pub invariant-loop-row : goal.invariant-loop-row
invariant-loop-row g l = l.rows.items ≡ l.initial.rows.items ++ map (process_row l.process) (take l.row-index l.own)
