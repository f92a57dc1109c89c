use Rattle.audit_findings.proofs.TurnLaws.{Turning}
use Rattle.audit_findings.proofs.in_turn.rows_in_turn.Given as goal

-- the rows are those of the processes before the rest
abbrev pub invariant-loop-process : goal.invariant-loop-process
invariant-loop-process g l = Turning g.S.ByProcess.rows_of l.fn.processes l.process-iterator l.rows.items
