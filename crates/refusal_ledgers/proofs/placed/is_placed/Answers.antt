use Rattle.std.proofs.Common.{◌≡◌, get_or, ◌+◌, ◌<◌, ◌∷◌, ◌++◌, [], All, take, take_all, sym, subst, ap, ◌∙◌, arith}
use Rattle.std.proofs.lemmas.List.{take_more, get_or_default}
use Rattle.std.proofs.lemmas.List.Elements.{All-push, All-weaker}
use Rattle.std.proofs.lemmas.List.Quantifiers.{all_pairs_push}
use Rattle.summary_law.specs.Fits.{PlacesRise}
use Rattle.refusal_ledgers.proofs.placed.is_placed.Goals as goal

pub loop-item-preserved : goal.loop-item-preserved
loop-item-preserved g c =
    let place = g.T.Placed.place_in in
    let items = c.args.items.now in
    let i = c.loop-item.item-index in
    let item = c.item-item.result in
    let here : c.place-place.result ≡ place item = c.place-place.ensures in
    let more : take (i + 1) items ≡ take i items ++ item ∷ [] = take_more items i item (omega arith) ∙ ap (λ x. take i items ++ x ∷ []) (sym c.item-item.is) in
    let below : All (λ x. place x < place item) (take i items)
    = All-weaker (λ x. place x < c.loop-item.least) (λ x. place x < place item) (λ x h. omega arith) (take i items) c.loop-item.invariant.below in
    record {
      rise = subst (PlacesRise place) (sym more)
          (all_pairs_push (λ a b. place a < place b) (take i items) item c.loop-item.invariant.rise (λ k d within. below k d within));
      below = subst (All (λ x. place x < c.from-least.result + 1)) (sym more)
          (All-push (λ x. place x < c.from-least.result + 1) (take i items) item
          (All-weaker (λ x. place x < place item) (λ x. place x < c.from-least.result + 1) (λ x h. omega arith) (take i items) below) (omega arith));
    }

pub returns : goal.returns
returns g c = (
  omega arith,
  subst (PlacesRise g.T.Placed.place_in) (take_all c.loop-item.item-index c.args.items.now c.loop-item-test.false) c.loop-item.invariant.rise,
)
