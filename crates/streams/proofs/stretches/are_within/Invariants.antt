use Rattle.std.proofs.Common.{◌≡◌, ◌+◌, length, sum_by, take}
use Rattle.streams.proofs.stretches.are_within.Given as goal

-- what is left is the limit less one file header and the bytes of the first parts
abbrev pub invariant-loop-part : goal.invariant-loop-part
invariant-loop-part l = l.left + 16 + sum_by (λ part. length part.items) (take l.part-index l.fn.parts) ≡ l.fn.limit
