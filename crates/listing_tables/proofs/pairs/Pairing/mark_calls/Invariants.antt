use Rattle.listing_tables.specs.Turns.{MarksIfClaimed, MakesEach}
use Rattle.listing_tables.proofs.pairs.Pairing.mark_calls.Given as goal

-- the first ones are done
abbrev pub invariant-loop-index : goal.invariant-loop-index
invariant-loop-index l = MakesEach MarksIfClaimed l.initial.self l.self l.index
