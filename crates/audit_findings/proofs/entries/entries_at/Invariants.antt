use Rattle.std.proofs.Common.{length}
use Rattle.audit_findings.proofs.EntriesAhead.{HasRead}
use Rattle.audit_findings.proofs.entries.entries_at.Given as goal

-- the entries of the frames that are passed are found, and the places of the others are left
abbrev pub invariant-loop-first : goal.invariant-loop-first
invariant-loop-first l = HasRead l.fn.frames l.fn.places l.ahead l.rest l.entries.items

abbrev pub decreases-loop-first : goal.decreases-loop-first
decreases-loop-first l = length l.ahead
