-- What holds between each element of a list and every later one.
use Rattle.std.proofs.Common.{◌≡◌, ℕ, suc, ◌<◌, ◌≤◌, inl, inr, List, [], ◌∷◌, ◌++◌, length, map, All, AllPairs, get_or, slice_index_or, ap, subst, arith}
use Rattle.std.specs.List.Sorted.{IsNonDecreasingBy}
use Rattle.std.proofs.lemmas.Bool.{cases_lt}
use Rattle.std.proofs.lemmas.List.{get_or-map, length-map}
use Rattle.std.proofs.lemmas.List.Elements.{All-append, All-cons, All-head, All-map, All-nil, All-tail}
use Rattle.std.proofs.lemmas.List.Kept.{AllPairs-cons}

module _ {X : Type 0} (R : X → X → Type 0) where
  -- the empty list has none
  pub pairs_nil : AllPairs R []
  pairs_nil i j d below within = absurd (omega (arith, within))

  -- the first element, and every later one
  pub pairs_head : (x : X) (xs : List X) → AllPairs R (x ∷ xs) → All (R x) xs
  pairs_head x xs all j d within = all 0 (suc j) d (omega arith) (omega (arith, within))

  pub pairs_tail : (x : X) (xs : List X) → AllPairs R (x ∷ xs) → AllPairs R xs
  pairs_tail x xs all i j d below within = all (suc i) (suc j) d (omega (arith, below)) (omega (arith, within))

  -- one list followed by another
  pub pairs_append : (xs ys : List X) → AllPairs R xs → AllPairs R ys → All (λ x. All (R x) ys) xs → AllPairs R (xs ++ ys)
  pairs_append [] ys first second between = second
  pairs_append (x ∷ xs) ys first second between =
      AllPairs-cons R x (xs ++ ys) (All-append (R x) xs ys (pairs_head x xs first) (All-head (λ a. All (R a) ys) x xs between))
      (pairs_append xs ys (pairs_tail x xs first) second (All-tail (λ a. All (R a) ys) x xs between))

-- what holds of each element holds of one after others
all_after : {X : Type 0} (P : X → Type 0) (xs : List X) (y : X) (ys : List X) → All P (xs ++ y ∷ ys) → P y
all_after P [] y ys all = All-head P y ys all
all_after P (x ∷ xs) y ys all = all_after P xs y ys (All-tail P x (xs ++ y ∷ ys) all)

-- an element, and each one before it
pub pairs_before : {X : Type 0} (R : X → X → Type 0) (xs : List X) (y : X) (ys : List X) → AllPairs R (xs ++ y ∷ ys) → All (λ x. R x y) xs
pairs_before R [] y ys all = All-nil (λ x. R x y)
pairs_before R (x ∷ xs) y ys all =
    All-cons (λ a. R a y) x xs (all_after (R x) xs y ys (pairs_head R x (xs ++ y ∷ ys) all))
    (pairs_before R xs y ys (pairs_tail R x (xs ++ y ∷ ys) all))

-- what is made of each element
pub pairs_map : {X Y : Type 0} (R : Y → Y → Type 0) (f : X → Y) (xs : List X) → AllPairs (λ a b. R (f a) (f b)) xs → AllPairs R (map f xs)
pairs_map R f [] all = pairs_nil R
pairs_map R f (x ∷ xs) all =
    AllPairs-cons R (f x) (map f xs) (All-map (R (f x)) f xs (pairs_head (λ a b. R (f a) (f b)) x xs all))
    (pairs_map R f xs (pairs_tail (λ a b. R (f a) (f b)) x xs all))

pub pairs_unmap : {X Y : Type 0} (R : Y → Y → Type 0) (f : X → Y) (xs : List X) → AllPairs R (map f xs) → AllPairs (λ a b. R (f a) (f b)) xs
pairs_unmap {X} {Y} R f xs all i j d below within =
    let long = length-map xs f in
    let inside : i < length xs = omega (arith, below, within) in
    subst (λ (y : Y). R (f (get_or xs i d)) y) (get_or-map f xs j d (f d) within)
    (subst (λ (x : Y). R x (get_or (map f xs) j (f d))) (get_or-map f xs i d (f d) inside) (all i j (f d) below (omega (arith, long, within))))

-- where a number does not fall from an element to a later one, it does not fall
pub pairs_rise : {X : Type 0} (R : X → X → Type 0) (f : X → ℕ) → ((x y : X) → R x y → f x ≤ f y) → (xs : List X) → AllPairs R xs → IsNonDecreasingBy f xs
pairs_rise R f rise xs all i j d upto within = elim (cases_lt i j) [
  | inl below ↦ rise (slice_index_or xs i d) (slice_index_or xs j d) (all i j d below within)
  | inr above ↦
      let same : i ≡ j = omega arith in
      omega (arith, ap (λ (n : ℕ). f (slice_index_or xs n d)) same)
]
