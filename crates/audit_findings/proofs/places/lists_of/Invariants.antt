use Rattle.audit_findings.specs.Places.{places_in}
use Rattle.audit_findings.proofs.HandleRows.{lists_of}
use Rattle.audit_findings.proofs.TurnLaws.{Listing}
use Rattle.audit_findings.proofs.places.lists_of.Given as goal

-- the lists are those of the processes before the rest
abbrev pub invariant-loop-process : goal.invariant-loop-process
invariant-loop-process g l = Listing (places_in g.L.ListsPlaces.test) l.fn.processes l.process-iterator (lists_of l.lists.items)
