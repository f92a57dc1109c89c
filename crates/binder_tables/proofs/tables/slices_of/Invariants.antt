use Rattle.std.proofs.Common.{◌≡◌, length, map, take}
use Rattle.binder_tables.proofs.tables.slices_of.Given as goal

-- the slices so far are those of the first parts
abbrev pub invariant-loop-part : goal.invariant-loop-part
invariant-loop-part l = record {
  same : map (λ slice. slice.now) l.slices.items ≡ map (λ part. part.items) (take l.part-index l.parts);
  few : length l.slices.items ≡ l.part-index;
}
