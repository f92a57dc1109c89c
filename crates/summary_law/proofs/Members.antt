-- What a list has, and lists in rising order.
use Rattle.std.proofs.Common.{◌≡◌, ◌≢◌, ℕ, zero, suc, ◌<◌, ◌≤◌, ◌⊎◌, Some, eqb, refl, sym, ap, ap₂, subst, ◌∙◌, ⊎_elim, inl, inr, arith}
use Rattle.std.proofs.Common.{List, [], ◌∷◌, ◌++◌, map, length, get_or}
use Rattle.std.specs.Prelude.{Contains, AllPairs, slice_get}
use Rattle.std.proofs.lemmas.Bool.{cases_lt}
use Rattle.std.proofs.lemmas.Bool.Decides.{Decides-eqb}
use Rattle.std.proofs.lemmas.Cmp.{nat_eq_equiv}
use Rattle.std.proofs.lemmas.List.{get_or_default}
use Rattle.std.proofs.lemmas.List.Elements.{All-contains}
use Rattle.std.proofs.lemmas.Option.{get_or_from_slice_get, slice_get-get_or, slice_get_within}
use Rattle.std.proofs.lemmas.List.Sorted.{Contains-permutation, IsPermutation-map, IsPermutation-sym}
use Rattle.std.proofs.lemmas.Map.Keys.{IsDistinct-IsPermutation}
use Rattle.std.proofs.lemmas.Map.Made.{AllPairs-from_IsDistinct, IsDistinct-from_AllPairs}
use Rattle.std.specs.List.Sorted.{IsPermutation, IsNonDecreasingBy}
use Rattle.summary_law.specs.Ranked.{ListsInOrder}

abbrev pub In : {X : Type 0} → X → List X → Type 0
In x [] = ⊥
In x (y ∷ later) = (x ≡ y) ⊎ In x later

in_at : {X : Type 0} (xs : List X) (k : ℕ) (x : X) → k < length xs → get_or xs k x ≡ x → In x xs
in_at [] k x within is = absurd (omega arith)
in_at (y ∷ xs) zero x within is = inl (sym is)
in_at (y ∷ xs) (suc k) x within is = inr (in_at xs k x (omega arith) is)

pub in_list : {X : Type 0} (xs : List X) (x : X) → Contains xs x → In x xs
in_list xs x has = in_at xs has.0 x has.1 has.2

pub contained : {X : Type 0} (xs : List X) (x : X) → In x xs → Contains xs x
contained [] x here = absurd here
contained (y ∷ xs) x (inl e) = (0, omega arith, sym e)
contained (y ∷ xs) x (inr there) =
    let has = contained xs x there in
    let within = has.1 in
    (suc has.0, omega arith, has.2)

pub in-map : {X Y : Type 0} (f : X → Y) (xs : List X) (y : Y) → In y (map f xs) → (x : X) × In x xs × (y ≡ f x)
in-map f [] y here = absurd here
in-map f (x ∷ xs) y (inl e) = (x, inl refl, e)
in-map f (x ∷ xs) y (inr there) =
    let found = in-map f xs y there in
    (found.0, inr found.1, found.2)

pub map-in : {X Y : Type 0} (f : X → Y) (xs : List X) (x : X) → In x xs → In (f x) (map f xs)
map-in f [] x here = absurd here
map-in f (y ∷ xs) x (inl e) = inl (ap f e)
map-in f (y ∷ xs) x (inr there) = inr (map-in f xs x there)

pub in_get : {X : Type 0} (xs : List X) (x : X) → In x xs → (k : ℕ) × (slice_get xs k ≡ Some x)
in_get xs x here =
    let has = contained xs x here in
    (has.0, slice_get-get_or xs has.0 x has.1 ∙ ap Some has.2)

pub get_in : {X : Type 0} (xs : List X) (k : ℕ) (x : X) → slice_get xs k ≡ Some x → In x xs
get_in xs k x e = in_at xs k x (slice_get_within xs k x e) (get_or_from_slice_get xs k x x e)

pub in_middle : {X : Type 0} (front : List X) (x : X) (back : List X) → In x (front ++ x ∷ back)
in_middle [] x back = inl refl
in_middle (y ∷ front) x back = inr (in_middle front x back)

-- ---- rising order

-- each thing is before all later ones
abbrev pub InOrder : {X : Type 0} → (X → X → Type 0) → List X → Type 0
InOrder Before [] = Unit {0}
InOrder {X} Before (x ∷ later) = ((y : X) → In y later → Before x y) × InOrder Before later

abbrev pub Rises : {X : Type 0} → (X → ℕ) → List X → Type 0
Rises rank xs = InOrder (λ x y. rank x < rank y) xs

pub rises_from_pairs : {X : Type 0} (rank : X → ℕ) (xs : List X) → AllPairs (λ x y. rank x < rank y) xs → Rises rank xs
rises_from_pairs rank [] pairs = tt
rises_from_pairs rank (x ∷ xs) pairs = (
  λ y there. All-contains (λ z. rank x < rank z) xs y (λ j d within. pairs 0 (suc j) d (omega arith) (omega arith)) (contained xs y there),
  rises_from_pairs rank xs (λ i j d below within. pairs (suc i) (suc j) d (omega arith) (omega arith)),
)

pub pairs_from_rises : {X : Type 0} (rank : X → ℕ) (xs : List X) → Rises rank xs → AllPairs (λ x y. rank x < rank y) xs
pairs_from_rises rank [] rises i j d below within = absurd (omega arith)
pairs_from_rises rank (x ∷ xs) rises i zero d below within = absurd (omega arith)
pairs_from_rises rank (x ∷ xs) rises zero (suc j) d below within = rises.0 (get_or xs j d) (in_at xs j (get_or xs j d) (omega arith) (get_or_default xs j (get_or xs j d) d (omega arith)))
pairs_from_rises rank (x ∷ xs) rises (suc i) (suc j) d below within = pairs_from_rises rank xs rises.1 i j d (omega arith) (omega arith)

pub rises-map : {X Y : Type 0} (f : X → Y) (rank : Y → ℕ) (xs : List X) → Rises (λ x. rank (f x)) xs → Rises rank (map f xs)
rises-map f rank [] rises = tt
rises-map {X} {Y} f rank (x ∷ xs) rises = (
  λ y there.
      let found = in-map f xs y there in
      subst (λ (z : Y). rank (f x) < rank z) (sym found.2) (rises.0 found.0 found.1),
  rises-map f rank xs rises.1,
)

pub map-rises : {X Y : Type 0} (f : X → Y) (rank : Y → ℕ) (xs : List X) → Rises rank (map f xs) → Rises (λ x. rank (f x)) xs
map-rises f rank [] rises = tt
map-rises f rank (x ∷ xs) rises = (λ y there. rises.0 (f y) (map-in f xs y there), map-rises f rank xs rises.1)

-- ---- two lists in one order that have the same

module _ {X : Type 0} (Before : X → X → Type 0) (one_way : (x y : X) → Before x y → Before y x → ⊥) where
  same_first : (x y : X) (xs ys : List X) → InOrder Before (x ∷ xs) → InOrder Before (y ∷ ys) → In x (y ∷ ys) → In y (x ∷ xs) → x ≡ y
  same_first x y xs ys first second (inl e) other = e
  same_first x y xs ys first second (inr there) (inl e) = sym e
  same_first x y xs ys first second (inr there) (inr other) = absurd (one_way x y (first.0 y other) (second.0 x there))

  in_tail : (x y z : X) (xs ys : List X) → InOrder Before (x ∷ xs) → x ≡ y → In z xs → In z (y ∷ ys) → In z ys
  in_tail x y z xs ys order e there (inl same) =
      let itself : Before x x = subst (Before x) (same ∙ sym e) (order.0 z there) in
      absurd (one_way x x itself itself)
  in_tail x y z xs ys order e there (inr other) = other

  pub one_order : (xs ys : List X) → InOrder Before xs → InOrder Before ys
      → ((x : X) → In x xs → In x ys) → ((x : X) → In x ys → In x xs) → xs ≡ ys
  one_order [] [] first second to from = refl
  one_order [] (y ∷ ys) first second to from = absurd (from y (inl refl))
  one_order (x ∷ xs) [] first second to from = absurd (to x (inl refl))
  one_order (x ∷ xs) (y ∷ ys) first second to from =
      let e : x ≡ y = same_first x y xs ys first second (to x (inl refl)) (from y (inl refl)) in
      ap₂ (λ (z : X) (zs : List X). z ∷ zs) e
      (one_order xs ys first.1 second.1 (λ z there. in_tail x y z xs ys first e there (to z (inr there)))
      (λ z there. in_tail y x z ys xs second (sym e) there (from z (inr there))))

pub same_lists : {X : Type 0} (rank : X → ℕ) (xs ys : List X) → Rises rank xs → Rises rank ys
    → ((x : X) → In x xs → In x ys) → ((x : X) → In x ys → In x xs) → xs ≡ ys
same_lists rank xs ys first second to from =
    one_order (λ x y. rank x < rank y) (λ x y less more. omega arith) xs ys first second to from

-- ---- from the words of the definitions to these, and back

pub listed : {X : Type 0} (rank : X → ℕ) (Is : X → Type 0) (xs : List X) → Rises rank xs
    → ((x : X) → In x xs → Is x) → ((x : X) → Is x → In x xs) → ListsInOrder rank Is xs
listed rank Is xs rises sound whole = record {
  rising = pairs_from_rises rank xs rises;
  exact = λ x. (λ has. sound x (in_list xs x has), λ is. contained xs x (whole x is));
}

-- ---- the same elements, sorted

-- a list that does not fall rises if all ranks differ
pub rises_sorted : {X : Type 0} (rank : X → ℕ) (xs : List X) → AllPairs (λ (a b : ℕ). a ≢ b) (map rank xs) → IsNonDecreasingBy rank xs → Rises rank xs
rises_sorted rank [] differ sorted = tt
rises_sorted rank (x ∷ xs) differ sorted = (
  λ y there.
      let has = contained xs y there in
      let own = contained (map rank xs) (rank y) (map-in rank xs y there) in
      let within = has.1 in
      let inside = own.1 in
      let same : rank (get_or xs has.0 y) ≡ rank y = ap rank has.2 in
      let least = sorted 0 (suc has.0) y (omega arith) (omega arith) in
      let apart : rank x ≢ rank y = λ equal. differ 0 (suc own.0) (rank y) (omega arith) (omega arith) (equal ∙ sym own.2) in
      ⊎_elim
      (λ (less : rank x < rank y). less)
      (λ (more : rank y ≤ rank x). absurd (apart (omega arith)))
      (cases_lt (rank x) (rank y)),
  rises_sorted rank xs (λ i j d below within. differ (suc i) (suc j) d (omega arith) (omega arith))
      (λ i j d below within. sorted (suc i) (suc j) d (omega arith) (omega arith)),
)

-- a list that does not fall, and has the elements of a rising list, is that list
pub in_place : {X : Type 0} (rank : X → ℕ) (xs ys : List X) → Rises rank xs → IsPermutation xs ys → IsNonDecreasingBy rank ys → xs ≡ ys
in_place rank xs ys rises moved sorted =
    let ranks = pairs_from_rises (λ n. n) (map rank xs) (rises-map rank (λ n. n) xs rises) in
    let distinct = IsDistinct-IsPermutation eqb (λ x y. nat_eq_equiv.symm x y) (map rank xs) (map rank ys) (IsPermutation-map rank xs ys moved)
    (IsDistinct-from_AllPairs Decides-eqb (map rank xs)
    (λ i j d below within same. let less = ranks i j d below within in absurd (omega arith))) in
    same_lists rank xs ys rises (rises_sorted rank ys (AllPairs-from_IsDistinct Decides-eqb (map rank ys) distinct) sorted)
    (λ x there. in_list ys x (Contains-permutation xs ys x moved (contained xs x there)))
    (λ x there. in_list xs x (Contains-permutation ys xs x (IsPermutation-sym xs ys moved) (contained ys x there)))
