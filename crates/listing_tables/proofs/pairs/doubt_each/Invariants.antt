use Rattle.std.proofs.Common.{take}
use Rattle.listing_tables.specs.Decisions.{DoubtsEach}
use Rattle.listing_tables.proofs.pairs.doubt_each.Given as goal

-- the first ones are in doubt
abbrev pub invariant-loop-fit : goal.invariant-loop-fit
invariant-loop-fit l = DoubtsEach l.fn.waiting l.waiting (take l.fit-index l.fits)
