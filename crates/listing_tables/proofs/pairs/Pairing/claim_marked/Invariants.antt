use Rattle.listing_tables.specs.Turns.{ClaimsIfMarked, MakesEach}
use Rattle.listing_tables.proofs.pairs.Pairing.claim_marked.Given as goal

-- the first ones are done
abbrev pub invariant-loop-index : goal.invariant-loop-index
invariant-loop-index l = MakesEach ClaimsIfMarked l.initial.self l.self l.index
