-- The send that is taken by guess.
use Rattle.std.proofs.Common.{◌≡◌, ◌<◌, ◌≤◌, ◌+◌, ⊎_elim, ◌≢◌, ℕ, Bool, true, false, List, Option, Some, slice_get, length, below_more, refl, sym, ap, subst, ◌∙◌, arith}
use Rattle.std.proofs.lemmas.Bool.Decides.{nat_tests}
use Rattle.std.proofs.lemmas.Option.{slice_get_within}
use Rattle.std.specs.Bool.{OnFalse, OnTrue}
use Rattle.std.specs.Prelude.{nat_lt}
use Rattle.listing_tables.specs.declared.fitting.Fit.{Fit}
use Rattle.listing_tables.specs.Certainty.{IsIn}
use Rattle.listing_tables.specs.Guesses.{AreInOrder, IsGuess, IsGuessOf, IsNoLater, MayBeGuessed, by_first, by_second, by_third}
use Rattle.listing_tables.proofs.PairLaws.{on_true_from}

-- ---- the order in which sends are guessed

in_order : {a b c x y z p q r : ℕ} → AreInOrder a b c x y z → AreInOrder x y z p q r → AreInOrder a b c p q r
in_order (by_first l) (by_first m) = by_first (omega (arith, l, m))
in_order (by_first l) (by_second e m) = by_first (omega (arith, l, e))
in_order (by_first l) (by_third e f m) = by_first (omega (arith, l, e))
in_order (by_second e l) (by_first m) = by_first (omega (arith, e, m))
in_order (by_second e l) (by_second f m) = by_second (e ∙ f) (omega (arith, l, m))
in_order (by_second e l) (by_third f g m) = by_second (e ∙ f) (omega (arith, l, g))
in_order (by_third e f l) (by_first m) = by_first (omega (arith, e, m))
in_order (by_third e f l) (by_second g m) = by_second (e ∙ g) (omega (arith, f, m))
in_order (by_third e f l) (by_third g h m) = by_third (e ∙ g) (f ∙ h) (omega (arith, l, m))

-- a send comes no later than itself
pub not_later : (oneway : Bool) (fit : Fit) → IsNoLater oneway fit fit
not_later oneway fit = by_third refl refl (omega arith)

-- ---- the one that is guessed so far

pub record GuessSoFar (oneway : Bool) (fits : List Fit) (n : ℕ) (found : Option Fit) : Type 0 where
  pub is : (it : Fit) → found ≡ Some it → IsIn fits it × MayBeGuessed it
  pub first : (at : ℕ) → at < n → (other : Fit) → slice_get fits at ≡ Some other → MayBeGuessed other
      → (it : Fit) × (found ≡ Some it) × IsNoLater oneway it other

pub same_fit : (a b : Fit) → Some a ≡ Some b → a ≡ b
same_fit a b h = cc

pub guess_more : (oneway : Bool) (fits : List Fit) (i : ℕ) (old new : Option Fit) (fit : Fit) → slice_get fits i ≡ Some fit
    → IsGuessOf oneway old fit new → GuessSoFar oneway fits i old → GuessSoFar oneway fits (i + 1) new
guess_more oneway fits i old new fit here step before = record {
  is = λ it e. ⊎_elim
      (λ (was : old ≡ Some it). before.is it was)
      (λ (now : (it ≡ fit) × MayBeGuessed fit).
      ((i, here ∙ ap Some (sym now.0)), subst MayBeGuessed (sym now.0) now.1))
      (step.is it e);
  first = below_more _ _
      (λ (at : ℕ) (l : at < i) (other : Fit) (h : slice_get fits at ≡ Some other) (may : MayBeGuessed other).
      let b = before.first at l other h may in
      let k = step.kept b.0 b.1 in
      (k.0, k.1, in_order k.2 b.2))
      (λ (other : Fit) (h : slice_get fits i ≡ Some other) (may : MayBeGuessed other).
      let same : fit ≡ other = same_fit fit other (sym here ∙ h) in
      let k = step.new (subst MayBeGuessed (sym same) may) in
      (k.0, k.1, subst (IsNoLater oneway k.0) same k.2));
}

pub guess_of_all : (oneway : Bool) (fits : List Fit) (n : ℕ) (found : Option Fit) → length fits ≤ n
    → GuessSoFar oneway fits n found → IsGuess oneway fits found
guess_of_all oneway fits n found past so_far = record {
  is = so_far.is;
  first = λ other h may.
      let within = slice_get_within fits h.0 other h.1 in
      so_far.first h.0 (omega (arith, within, past)) other h.1 may;
}

-- ---- which of two sends is guessed

below : (p q : ℕ) → nat_lt p q ≡ true → p < q
below p q t = grind (arith, nat_tests)

not_below : (p q : ℕ) → nat_lt p q ≡ false → q ≤ p
not_below p q t = grind (arith, nat_tests)

on_false_from : {P : Type 0} (b : Bool) → (b ≡ false → P) → OnFalse b P
on_false_from true f = tt
on_false_from false f = f refl

module _ (a b c x y z p q : ℕ) (e : p ≡ a) (f : q ≡ x) where
  -- the first numbers, as they were found, are not the same
  pub first_better : OnTrue (nat_lt p q) (AreInOrder a b c x y z)
  first_better = on_true_from (nat_lt p q) (λ (t : nat_lt p q ≡ true). let l = below p q t in by_first (omega (arith, l, e, f)))

  pub first_worse : p ≢ q → OnFalse (nat_lt p q) (AreInOrder x y z a b c)
  first_worse apart =
      on_false_from (nat_lt p q) (λ (t : nat_lt p q ≡ false). let l = not_below p q t in by_first (omega (arith, l, e, f, apart)))

module _ (a b c x y z p q : ℕ) (same : a ≡ x) (e : p ≡ b) (f : q ≡ y) where
  -- so it is of the second ones
  pub second_better : OnTrue (nat_lt p q) (AreInOrder a b c x y z)
  second_better =
      on_true_from (nat_lt p q) (λ (t : nat_lt p q ≡ true). let l = below p q t in by_second same (omega (arith, l, e, f)))

  pub second_worse : p ≢ q → OnFalse (nat_lt p q) (AreInOrder x y z a b c)
  second_worse apart =
      on_false_from (nat_lt p q)
      (λ (t : nat_lt p q ≡ false). let l = not_below p q t in by_second (sym same) (omega (arith, l, e, f, apart)))

module _ (a b c x y z : ℕ) (same : a ≡ x) (alike : b ≡ y) where
  -- so it is of the third ones
  pub third_better : OnTrue (nat_lt c z) (AreInOrder a b c x y z)
  third_better = on_true_from (nat_lt c z) (λ (t : nat_lt c z ≡ true). let l = below c z t in by_third same alike (omega (arith, l)))

  pub third_worse : OnFalse (nat_lt c z) (AreInOrder x y z a b c)
  third_worse =
      on_false_from (nat_lt c z) (λ (t : nat_lt c z ≡ false). by_third (sym same) (sym alike) (not_below c z t))
