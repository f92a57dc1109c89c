use Rattle.listing_tables.specs.Turns.{MakesEach, PairsIfReplied}
use Rattle.listing_tables.proofs.pairs.Pairing.pair_replies.Given as goal

-- the first ones are done
abbrev pub invariant-loop-index : goal.invariant-loop-index
invariant-loop-index l = MakesEach PairsIfReplied l.initial.self l.self l.index
