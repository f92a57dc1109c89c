use Rattle.std.proofs.Common.{take}
use Rattle.listing_tables.specs.Pairing.{MarksEach}
use Rattle.listing_tables.proofs.marks.mark_each.Given as goal

abbrev pub invariant-loop-fit : goal.invariant-loop-fit
invariant-loop-fit l = MarksEach l.fn.marks.all.items l.marks.all.items (take l.fit-index l.fits) l.delivery
