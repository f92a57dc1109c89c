use Rattle.listing_tables.specs.Turns.{HasTurn, MakesEach}
use Rattle.listing_tables.proofs.pairs.Pairing.take_turns.Given as goal

-- the first ones are done
abbrev pub invariant-loop-index : goal.invariant-loop-index
invariant-loop-index l = MakesEach (HasTurn l.calls) l.initial.self l.self l.index
