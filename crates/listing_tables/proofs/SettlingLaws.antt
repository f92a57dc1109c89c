-- The first of the sends of a thread that wait, and what is said to it.
use Rattle.std.proofs.Common.{◌≡◌, ℕ, suc, List, [], ◌∷◌, ◌++◌, map, set, drop, length, Option, Some, slice_get, refl, ap, ◌∙◌, arith}
use Rattle.std.proofs.lemmas.List.{map-set}
use Rattle.std.proofs.lemmas.Option.{slice_get-map}
use Rattle.std.specs.Option.{option_map, option_to_list}
use Rattle.listing_tables.specs.Settling.{AddsLast, TakesFirst}

no_first : (xs : List ℕ) → xs ≡ drop 1 xs → xs ≡ []
no_first [] e = refl
no_first (x ∷ xs) e = let longer : suc (length xs) ≡ length xs = ap length e in absurd (omega (arith, longer))

module _ {X : Type 0} (items : X → List ℕ) (queues : List X) (at : ℕ) (before after : X) (there : slice_get queues at ≡ Some before) where
  queue_at : slice_get (map items queues) at ≡ Some (items before)
  queue_at = slice_get-map items queues at ∙ ap (option_map items) there

  pub takes_first : (found : Option ℕ) → items before ≡ option_to_list found ++ items after → items after ≡ drop 1 (items before)
      → TakesFirst (map items queues) at (map items (set queues at after)) found
  takes_first found first rest = record {
    rest = items after;
    there = queue_at ∙ ap Some first;
    none = λ none. no_first (items after)
        (rest ∙ ap (drop 1) (first ∙ ap (λ (o : Option ℕ). option_to_list o ++ items after) none));
    are = map-set items queues at after;
  }

  pub adds_last : (send : ℕ) → items after ≡ items before ++ send ∷ []
      → AddsLast (map items queues) at send (map items (set queues at after))
  adds_last send last = record {
    before = items before;
    there = queue_at;
    are = map-set items queues at after ∙ ap (set (map items queues) at) last;
  }
