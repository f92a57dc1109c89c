use Rattle.std.proofs.Common.{◌≡◌, List, ◌++◌}
use Rattle.call_stacks.specs.declared.call_record.CallEvent.{CallEvent}
use Rattle.call_stacks.specs.declared.calls.Calls.{Calls}
use Rattle.capture_frame.specs.declared.process.Thread.{Thread}
use Rattle.audit_findings.specs.ThreadRows.{AreGatheredRows}
use Rattle.audit_findings.proofs.thread_rows.ThreadRows.in_turn.Given as goal

-- the rows are those of the threads before the rest
abbrev pub invariant-loop-thread : goal.invariant-loop-thread
invariant-loop-thread l =
    (done : List (Thread × Calls CallEvent)) × (done ++ l._thread-iterator ≡ l.fn.ledger.threads.entries.entries) × AreGatheredRows done l.rows
