use Rattle.std.proofs.Common.{All, take}
use Rattle.streams.specs.Stretches.{IsPartOf}
use Rattle.streams.proofs.stretches.are_of.Given as goal

-- the first parts are of the version
abbrev pub invariant-loop-part : goal.invariant-loop-part
invariant-loop-part l = All (λ part. IsPartOf l.version part.items) (take l.part-index l.fn.parts)
