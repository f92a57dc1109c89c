use Rattle.listing_tables.specs.Turns.{KeepsIfGuessed, MakesEach}
use Rattle.listing_tables.proofs.pairs.Pairing.keep_guesses.Given as goal

-- the first ones are done
abbrev pub invariant-loop-index : goal.invariant-loop-index
invariant-loop-index l = MakesEach KeepsIfGuessed l.initial.self l.self l.index
