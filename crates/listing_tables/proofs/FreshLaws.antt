-- The first of some sends that has certainly not come before, and what is left of a list.
use Rattle.std.proofs.Common.{◌≡◌, ◌<◌, ◌≤◌, ◌+◌, ⊎_elim, ℕ, zero, suc, Bool, true, false, List, [], ◌∷◌, Option, Some, None, slice_get, length, below_more, sym, ap, ◌∙◌, arith}
use Rattle.std.proofs.lemmas.Option.{slice_get_within}
use Rattle.std.specs.List.{items_where_true}
use Rattle.listing_tables.specs.declared.fitting.Fit.{Fit}
use Rattle.listing_tables.specs.Certainty.{IsIn}
use Rattle.listing_tables.specs.OneHandle.{IsFirstFresh, IsFirstOf}
use Rattle.listing_tables.proofs.InLaws.{in_rest}

none_some : {X : Type 0} (x : X) → None ≡ Some x → ⊥
none_some x e = cc

kept_at : {X : Type 0} (bs : List Bool) (xs : List X) (x : X) (i : ℕ) → slice_get (items_where_true bs xs) i ≡ Some x → IsIn xs x
kept_at [] xs x i h = absurd (none_some x h)
kept_at (true ∷ bs) [] x i h = absurd (none_some x h)
kept_at (false ∷ bs) [] x i h = absurd (none_some x h)
kept_at (true ∷ bs) (y ∷ xs) x zero h = (zero, h)
kept_at (true ∷ bs) (y ∷ xs) x (suc i) h = in_rest y x xs (kept_at bs xs x i h)
kept_at (false ∷ bs) (y ∷ xs) x i h = in_rest y x xs (kept_at bs xs x i h)

-- what is kept of a list was in it
pub kept_in : {X : Type 0} (bs : List Bool) (xs : List X) (x : X) → IsIn (items_where_true bs xs) x → IsIn xs x
kept_in bs xs x h = kept_at bs xs x h.0 h.1

-- the first one so far
pub record FirstSoFar (fits : List Fit) (n : ℕ) (found : Option Fit) : Type 0 where
  pub is : (it : Fit) → found ≡ Some it → IsIn fits it × (it.fresh ≡ true)
  pub first : (at : ℕ) → at < n → (other : Fit) → slice_get fits at ≡ Some other → other.fresh ≡ true
      → (it : Fit) × (found ≡ Some it) × (it.listed.index ≤ other.listed.index)

same_fit : (a b : Fit) → Some a ≡ Some b → a ≡ b
same_fit a b h = cc

pub first_more : (fits : List Fit) (i : ℕ) (old new : Option Fit) (fit : Fit) → slice_get fits i ≡ Some fit
    → IsFirstOf old fit new → FirstSoFar fits i old → FirstSoFar fits (i + 1) new
first_more fits i old new fit here step before = record {
  is = λ it e. ⊎_elim
      (λ (was : old ≡ Some it). before.is it was)
      (λ (now : (it ≡ fit) × (fit.fresh ≡ true)).
      ((i, here ∙ ap Some (sym now.0)), ap (λ (f : Fit). f.fresh) now.0 ∙ now.1))
      (step.is it e);
  first = below_more _ _
      (λ (at : ℕ) (l : at < i) (other : Fit) (h : slice_get fits at ≡ Some other) (f : other.fresh ≡ true).
      let b = before.first at l other h f in
      let k = step.kept b.0 b.1 in
      let le : k.0.listed.index ≤ other.listed.index = omega (arith, k.2, b.2) in
      (k.0, k.1, le))
      (λ (other : Fit) (h : slice_get fits i ≡ Some other) (f : other.fresh ≡ true).
      let same : fit ≡ other = same_fit fit other (sym here ∙ h) in
      let k = step.fresh (ap (λ (f : Fit). f.fresh) same ∙ f) in
      let e : fit.listed.index ≡ other.listed.index = ap (λ (f : Fit). f.listed.index) same in
      let le : k.0.listed.index ≤ other.listed.index = omega (arith, k.2, e) in
      (k.0, k.1, le));
}

pub first_of_all : (fits : List Fit) (n : ℕ) (found : Option Fit) → length fits ≤ n → FirstSoFar fits n found
    → IsFirstFresh fits found
first_of_all fits n found past so_far = record {
  is = so_far.is;
  first = λ other h f.
      let within = slice_get_within fits h.0 other h.1 in
      so_far.first h.0 (omega (arith, within, past)) other h.1 f;
}
