use Rattle.std.proofs.Common.{◌≡◌, ◌+◌, ℕ, ◌<◌, All, take, get_or}
use Rattle.summary_law.specs.Fits.{PlacesRise}
use Rattle.refusal_ledgers.proofs.placed.is_placed.Given as goal

abbrev pub invariant-loop-item : goal.invariant-loop-item
invariant-loop-item g l = record {
  rise : PlacesRise g.T.Placed.place_in (take l.item-index l.items);
  below : All (λ item. g.T.Placed.place_in item < l.least) (take l.item-index l.items);
}
