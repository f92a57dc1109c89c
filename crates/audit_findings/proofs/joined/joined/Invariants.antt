use Rattle.std.proofs.Common.{◌≡◌}
use Rattle.audit_findings.proofs.HandleRows.{joined_to}
use Rattle.audit_findings.proofs.joined.joined.Given as goal

-- the elements of the lists so far, one list after another
abbrev pub invariant-loop-list : goal.invariant-loop-list
invariant-loop-list g l = l.all.items ≡ joined_to l.fn.lists l.list-index
