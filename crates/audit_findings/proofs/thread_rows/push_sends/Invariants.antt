use Rattle.std.proofs.Common.{◌≡◌, ◌++◌, map, take}
use Rattle.audit_findings.specs.ThreadRows.{kept_send}
use Rattle.audit_findings.proofs.thread_rows.push_sends.Given as goal

-- the rows so far follow those that were there
abbrev pub invariant-loop-sent : goal.invariant-loop-sent
invariant-loop-sent l = l.rows.items ≡ l.initial.rows.items ++ map kept_send (take l.sent-index l.sends)
