use Rattle.listing_tables.proofs.GuessLaws.{GuessSoFar}
use Rattle.listing_tables.proofs.fitting.Fitting.best.Given as goal

abbrev pub invariant-loop-fit : goal.invariant-loop-fit
invariant-loop-fit l = GuessSoFar l.oneway l.self.list.items l.fit-index l.best
