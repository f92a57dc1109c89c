use Rattle.std.proofs.Common.{◌≡◌, ℕ, ◌+◌, ◌<◌, ◌≤◌, List, ◌∷◌, ◌++◌, [], All, length, get_or, take, take_all, sym, subst, arith}
use Rattle.std.proofs.lemmas.List.{take_more}
use Rattle.std.proofs.lemmas.List.Elements.{All-push, All-weaker}
use Rattle.std.proofs.lemmas.List.Quantifiers.{all_pairs_push}
use Rattle.summary_law.specs.Fits.{PlacesRise}
use Rattle.listing_tables.specs.Calls.{step_place}
use Rattle.listing_tables.specs.declared.calls.CallStep.{CallStep}
use Rattle.listing_tables.proofs.calls.is_placed.Goals as goal

-- one more record, whose place is not below any place that is too low
one_more : (steps : List CallStep) (i least place : ℕ) (d : CallStep) → i < length steps → least ≤ place
    → place ≡ step_place (get_or steps i d) → PlacesRise step_place (take i steps)
    → All (λ s. step_place s < least) (take i steps)
    → PlacesRise step_place (take (i + 1) steps) × All (λ s. step_place s < place + 1) (take (i + 1) steps)
one_more steps i least place d within above is rise low =
    let step = get_or steps i d in
    let more : take (i + 1) steps ≡ take i steps ++ step ∷ [] = take_more steps i d within in
    let below : All (λ s. step_place s < step_place step) (take i steps)
    = All-weaker (λ s. step_place s < least) (λ s. step_place s < step_place step) (λ s h. omega (arith, h, above, is)) (take i steps) low in (
      subst (PlacesRise step_place) (sym more)
          (all_pairs_push (λ a b. step_place a < step_place b) (take i steps) step rise (λ k e inside. below k e inside)),
      subst (All (λ s. step_place s < place + 1)) (sym more)
          (All-push (λ s. step_place s < place + 1) (take i steps) step
          (All-weaker (λ s. step_place s < least) (λ s. step_place s < place + 1) (λ s h. omega (arith, h, above)) (take i steps) low)
          (omega (arith, is))),
    )

pub loop-step-preserved : goal.loop-step-preserved
loop-step-preserved c =
    let both = one_more c.args.steps.now c.loop-step.step-index c.loop-step.least c.from-least.result _ c.loop-step-test.true
    (omega (arith, c.if-from-least.false, c.from.ensures, c.from-least.ensures)) c.from-least.ensures c.loop-step.invariant.rise c.loop-step.invariant.below in
    record { rise = both.0; below = both.1 }

pub returns : goal.returns
returns c = (
  omega arith,
  subst (PlacesRise step_place) (take_all c.loop-step.step-index c.args.steps.now c.loop-step-test.false) c.loop-step.invariant.rise,
)
