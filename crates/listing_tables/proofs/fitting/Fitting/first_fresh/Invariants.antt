use Rattle.listing_tables.proofs.FreshLaws.{FirstSoFar}
use Rattle.listing_tables.proofs.fitting.Fitting.first_fresh.Given as goal

abbrev pub invariant-loop-fit : goal.invariant-loop-fit
invariant-loop-fit l = FirstSoFar l.self.list.items l.fit-index l.first
