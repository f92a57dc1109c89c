-- The elements after the last one that passes a test.
use Rattle.std.proofs.Common.{◌≡◌, ◌||◌, Bool, true, false, cond, List, [], ◌∷◌, ◌++◌, refl, ap, ◌∙◌}
use Rattle.std.proofs.Math.Bool.{or-false}
use Rattle.std.proofs.lemmas.Bool.{or_right}
use Rattle.std.proofs.lemmas.List.Folds.{list_any-append}
use Rattle.std.specs.List.{list_any}
use Rattle.pending_ledger.specs.KeyEvents.{after_last}

module _ {X : Type 0} (test : X → Bool) where
  pub after_last-none : (xs : List X) → list_any test xs ≡ false → after_last test xs ≡ xs
  after_last-none [] none = refl
  after_last-none (x ∷ xs) none = ap (λ b. cond b (after_last test xs) (x ∷ xs)) none

  -- with more elements, none of which passes
  pub after_last-append : (xs ys : List X) → list_any test ys ≡ false → after_last test (xs ++ ys) ≡ after_last test xs ++ ys
  after_last-append [] ys none = after_last-none ys none
  after_last-append (x ∷ xs) ys none =
      let same : list_any test ((x ∷ xs) ++ ys) ≡ list_any test (x ∷ xs)
      = list_any-append test (x ∷ xs) ys ∙ ap (λ b. list_any test (x ∷ xs) || b) none ∙ or-false (list_any test (x ∷ xs)) in
      let split : cond (list_any test (x ∷ xs)) (after_last test (xs ++ ys)) (x ∷ (xs ++ ys))
      ≡ cond (list_any test (x ∷ xs)) (after_last test xs) (x ∷ xs) ++ ys
      = elim (list_any test (x ∷ xs)) as (λ b. cond b (after_last test (xs ++ ys)) (x ∷ (xs ++ ys)) ≡ cond b (after_last test xs) (x ∷ xs) ++ ys)
      [ true ↦ after_last-append xs ys none | false ↦ refl ] in
      ap (λ b. cond b (after_last test (xs ++ ys)) (x ∷ (xs ++ ys))) same ∙ split

  -- with more elements, one of which passes
  pub after_last-anew : (xs ys : List X) → list_any test ys ≡ true → after_last test (xs ++ ys) ≡ after_last test ys
  after_last-anew [] ys some = refl
  after_last-anew (x ∷ xs) ys some =
      let passes : list_any test ((x ∷ xs) ++ ys) ≡ true
      = list_any-append test (x ∷ xs) ys ∙ or_right (list_any test (x ∷ xs)) (list_any test ys) some in
      ap (λ b. cond b (after_last test (xs ++ ys)) (x ∷ (xs ++ ys))) passes ∙ after_last-anew xs ys some

  -- they are the end of the list
  pub after_last-suffix : (xs : List X) → (front : List X) × (xs ≡ front ++ after_last test xs)
  after_last-suffix [] = ([], refl)
  after_last-suffix (x ∷ xs) =
      let rest = after_last-suffix xs in
      elim (list_any test (x ∷ xs)) as (λ b. (front : List X) × (x ∷ xs ≡ front ++ cond b (after_last test xs) (x ∷ xs)))
      [ true ↦ (x ∷ rest.0, ap (λ t. x ∷ t) rest.1) | false ↦ ([], refl) ]
