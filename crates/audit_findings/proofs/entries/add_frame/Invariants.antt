use Rattle.std.proofs.Common.{length}
use Rattle.capture_frame.specs.Envelope.{placed_frame}
use Rattle.audit_findings.proofs.EntryWalk.{IsRead}
use Rattle.audit_findings.proofs.entries.add_frame.Given as goal

-- the entries of the chosen events among those that were given are added
abbrev pub invariant-loop-event : goal.invariant-loop-event
invariant-loop-event l = IsRead l.initial.entries.items (placed_frame l.fn.frame) l.fn.places l.events l.entries.items l.rest

abbrev pub decreases-loop-event : goal.decreases-loop-event
decreases-loop-event l = length l.events
