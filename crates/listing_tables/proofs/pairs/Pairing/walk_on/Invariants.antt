use Rattle.listing_tables.specs.Turns.{MakesEach, WalksAt}
use Rattle.listing_tables.proofs.pairs.Pairing.walk_on.Given as goal

-- the first walks are made
abbrev pub invariant-loop-walk : goal.invariant-loop-walk
invariant-loop-walk l = MakesEach WalksAt l.initial.self l.self l.walk
