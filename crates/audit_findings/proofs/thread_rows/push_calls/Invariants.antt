use Rattle.std.proofs.Common.{◌≡◌, ◌++◌, take}
use Rattle.audit_findings.specs.ThreadRows.{made_of, served_by}
use Rattle.audit_findings.proofs.thread_rows.push_calls.Given as goal

-- the rows so far follow those that were there
abbrev pub invariant-loop-opener : goal.invariant-loop-opener
invariant-loop-opener l =
    (l.made.items ≡ l.initial.made.items ++ made_of (take l.opener-index l.openers))
    × (l.served.items ≡ l.initial.served.items ++ served_by (take l.opener-index l.openers))
