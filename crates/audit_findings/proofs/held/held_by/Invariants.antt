use Rattle.std.proofs.Common.{take}
use Rattle.audit_findings.specs.HeldCounts.{CountsEntries}
use Rattle.audit_findings.proofs.held.held_by.Given as goal

-- the references of the entries so far are counted
abbrev pub invariant-loop-entry : goal.invariant-loop-entry
invariant-loop-entry l = CountsEntries (take l.entry-index l.fn.entries) l.held
