use Rattle.std.proofs.Common.{◌≡◌, ◌+◌, List, length}
use Rattle.object_view.specs.declared.sort.Sort.{Sort}
use Rattle.object_view.specs.Objects.{ObjectText, objects_of}
use Rattle.audit_findings.specs.Objects.{sort_count, times_of}
use Rattle.audit_findings.proofs.ObjectWalk.{HasGiven}
use Rattle.audit_findings.proofs.objects.count_entry.Given as goal

-- the reader has given these objects, and they are counted too
abbrev pub invariant-loop-next : goal.invariant-loop-next
invariant-loop-next l =
    (done : List ObjectText) × HasGiven (objects_of l.fn.entry.body.now l.fn.entry.offsets.now) l.objects done
    × ((sort : Sort) → sort_count l.counts sort ≡ sort_count l.initial.counts sort + times_of sort done)

abbrev pub decreases-loop-next : goal.decreases-loop-next
decreases-loop-next l = length l.objects.good
