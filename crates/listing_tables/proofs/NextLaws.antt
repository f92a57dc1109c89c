-- What is left of sends that come one after another.
use Rattle.std.proofs.Common.{◌≡◌, ◌⊎◌, ⊎_elim, inl, inr, zero, suc, ℕ, Bool, true, false, List, [], ◌∷◌, Some, None, slice_get, length, refl, sym, subst, arith}
use Rattle.std.specs.List.{items_where_true}
use Rattle.std.specs.List.Retain.{IsFiltered, ReturnsInTurn}
use Rattle.listing_tables.specs.declared.fitting.Fit.{Fit}
use Rattle.listing_tables.specs.Certainty.{ComesAfter, IsIn}
use Rattle.listing_tables.specs.OneHandle.{IsFirstFresh, KeepsNext}
use Rattle.listing_tables.proofs.FreshLaws.{kept_in}
use Rattle.listing_tables.proofs.InLaws.{in_rest}

-- ---- what a test keeps of a list, and what it leaves out

none_some : {X : Type 0} (x : X) → None ≡ Some x → ⊥
none_some x e = cc

same_some : {X : Type 0} (a b : X) → Some a ≡ Some b → a ≡ b
same_some a b e = cc

module _ {X F : Type 0} (R : F → X → Bool → F → Type 0) (P Q : X → Type 0) (f : F)
    (says : (x : X) (b : Bool) (g : F) → R f x b g → ((b ≡ true → P x) × (b ≡ false → Q x)) × (g ≡ f)) where
  kept_at : (bs : List Bool) (xs : List X) (q : F) → ReturnsInTurn R f bs xs q → (i : ℕ) (x : X)
      → slice_get (items_where_true bs xs) i ≡ Some x → P x
  kept_at [] xs q told i x h = absurd (none_some x h)
  kept_at (true ∷ bs) [] q told i x h = absurd (none_some x h)
  kept_at (false ∷ bs) [] q told i x h = absurd (none_some x h)
  kept_at (true ∷ bs) (y ∷ xs) q told zero x h = subst P (same_some y x h) ((says y true told.0 told.1).0.0 refl)
  kept_at (true ∷ bs) (y ∷ xs) q told (suc i) x h =
      kept_at bs xs q (subst (λ (g : F). ReturnsInTurn R g bs xs q) (says y true told.0 told.1).1 told.2) i x h
  kept_at (false ∷ bs) (y ∷ xs) q told i x h =
      kept_at bs xs q (subst (λ (g : F). ReturnsInTurn R g bs xs q) (says y false told.0 told.1).1 told.2) i x h

  left_at : (bs : List Bool) (xs : List X) (q : F) → ReturnsInTurn R f bs xs q → (i : ℕ) (x : X) → slice_get xs i ≡ Some x
      → length bs ≡ length xs → IsIn (items_where_true bs xs) x ⊎ Q x
  left_at bs [] q told i x h same = absurd (none_some x h)
  left_at [] (y ∷ xs) q told i x h same = absurd (omega (arith, same))
  left_at (true ∷ bs) (y ∷ xs) q told zero x h same = inl (zero, h)
  left_at (false ∷ bs) (y ∷ xs) q told zero x h same = inr (subst Q (same_some y x h) ((says y false told.0 told.1).0.1 refl))
  left_at (true ∷ bs) (y ∷ xs) q told (suc i) x h same =
      ⊎_elim (λ (r : IsIn (items_where_true bs xs) x). inl (in_rest y x (items_where_true bs xs) r)) inr
      (left_at bs xs q (subst (λ (g : F). ReturnsInTurn R g bs xs q) (says y true told.0 told.1).1 told.2) i x h (omega (arith, same)))
  left_at (false ∷ bs) (y ∷ xs) q told (suc i) x h same =
      left_at bs xs q (subst (λ (g : F). ReturnsInTurn R g bs xs q) (says y false told.0 told.1).1 told.2) i x h (omega (arith, same))

  -- each one that is kept passes
  pub all_kept : (xs ys : List X) → IsFiltered R f xs ys → (x : X) → IsIn ys x → P x
  all_kept xs ys k x h =
      let h' = subst (λ (l : List X). IsIn l x) k.4 h in
      kept_at k.0 xs k.1 k.3 h'.0 x h'.1

  -- each one is kept, or does not pass
  pub all_left : (xs ys : List X) → IsFiltered R f xs ys → (x : X) → IsIn xs x → IsIn ys x ⊎ Q x
  all_left xs ys k x h =
      subst (λ (l : List X). IsIn l x ⊎ Q x) (sym k.4) (left_at k.0 xs k.1 k.3 h.0 x h.1 k.2)

-- ---- sends that come one after another

-- those are left that do not come after the first fresh one
pub keeps_next : {F : Type 0} (R : F → Fit → Bool → F → Type 0) (first : Fit) (f : F)
    → ((x : Fit) (b : Bool) (g : F) → R f x b g
    → ((b ≡ true → ComesAfter first x → ⊥) × (b ≡ false → ComesAfter first x)) × (g ≡ f))
    → (old new : List Fit) → IsFiltered R f old new → IsFirstFresh old (Some first) → KeepsNext old new
keeps_next {F} R first f says old new k is =
    let P = λ (x : Fit). (ComesAfter first x → ⊥) in
    let Q = λ (x : Fit). ComesAfter first x in
    record {
      first = Some first;
      is = is;
      kept = λ fit h. kept_in k.0 old fit (subst (λ (l : List Fit). IsIn l fit) k.4 h);
      left = λ it e fit h after.
          all_kept R P Q f says old new k fit h (subst (λ (x : Fit). ComesAfter x fit) (sym (same_some first it e)) after);
      gone = λ fit h. ⊎_elim inl (λ (after : ComesAfter first fit). inr (first, refl, after)) (all_left R P Q f says old new k fit h);
    }

-- all are left if none is fresh
pub keeps_all : (fits : List Fit) → IsFirstFresh fits None → KeepsNext fits fits
keeps_all fits is = record {
  first = None;
  is = is;
  kept = λ fit h. h;
  left = λ it e. absurd (none_some it e);
  gone = λ fit h. inl h;
}
