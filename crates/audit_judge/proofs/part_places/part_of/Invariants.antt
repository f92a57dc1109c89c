use Rattle.std.proofs.Common.{◌≡◌}
use Rattle.audit_judge.proofs.PlaceLaws.{IsLeft}
use Rattle.audit_judge.proofs.part_places.part_of.Given as goal

abbrev pub invariant-loop-part : goal.invariant-loop-part
invariant-loop-part l = IsLeft l.fn.parts l.part-index l.fault l.place × (l.number ≡ l.part-index)
