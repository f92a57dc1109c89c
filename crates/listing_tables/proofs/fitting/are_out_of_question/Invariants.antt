use Rattle.std.proofs.Common.{◌≡◌, ◌<◌, ℕ, Some, slice_get}
use Rattle.listing_tables.specs.declared.fitting.Fit.{Fit}
use Rattle.listing_tables.specs.Certainty.{IsOutOfQuestion}
use Rattle.listing_tables.proofs.fitting.are_out_of_question.Given as goal

abbrev pub invariant-loop-fit : goal.invariant-loop-fit
invariant-loop-fit l = (at : ℕ) → at < l.fit-index → (other : Fit) → slice_get l.fits at ≡ Some other → IsOutOfQuestion l.oneway l.only other
