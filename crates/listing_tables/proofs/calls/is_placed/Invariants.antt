use Rattle.std.proofs.Common.{◌<◌, All, take}
use Rattle.summary_law.specs.Fits.{PlacesRise}
use Rattle.listing_tables.specs.Calls.{step_place}
use Rattle.listing_tables.proofs.calls.is_placed.Given as goal

abbrev pub invariant-loop-step : goal.invariant-loop-step
invariant-loop-step l = record {
  rise : PlacesRise step_place (take l.step-index l.steps);
  below : All (λ step. step_place step < l.least) (take l.step-index l.steps);
}
