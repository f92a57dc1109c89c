use Rattle.std.proofs.Common.{List, length}
use Rattle.std.specs.List.{filter_map}
use Rattle.object_view.specs.Objects.{ObjectText, objects_of}
use Rattle.audit_findings.specs.Held.{reference_of}
use Rattle.audit_findings.specs.HeldCounts.{CountsMore}
use Rattle.audit_findings.proofs.ObjectWalk.{HasGiven}
use Rattle.audit_findings.proofs.held.add_objects.Given as goal

-- the reader has given these objects, and their references are counted too
abbrev pub invariant-loop-next : goal.invariant-loop-next
invariant-loop-next l =
    (done : List ObjectText) × HasGiven (objects_of l.fn.entry.body.now l.fn.entry.offsets.now) l.objects done
    × CountsMore l.initial.held (length l.fn.entry.offsets.now) (filter_map reference_of done) l.held

abbrev pub decreases-loop-next : goal.decreases-loop-next
decreases-loop-next l = length l.objects.good
