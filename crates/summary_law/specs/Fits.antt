-- Lists that can be summarised: few items, and places that rise.
use Rattle.std.specs.Prelude.{ℕ, ◌+◌, ◌≤◌, ◌<◌, ◌^◌, List, ◌++◌, length, All, AllPairs}
use Rattle.std.proofs.Common.{subst, arith, length-append, get_or}
use Rattle.std.proofs.lemmas.List.{get_or_append_left, get_or-append-add}

-- at most 2^32 items
abbrev pub IsShort : {I : Type 0} → List I → Type 0
IsShort items = length items ≤ 2 ^ 32

-- each item's place is below that of every later item
abbrev pub PlacesRise : {I : Type 0} → (I → ℕ) → List I → Type 0
PlacesRise place items = AllPairs (λ earlier later. place earlier < place later) items

-- at most 2^32 items, whose places rise
abbrev pub IsPlaced : {I : Type 0} → (I → ℕ) → List I → Type 0
IsPlaced place items = IsShort items × PlacesRise place items

-- both halves of a short list are short
pub short_halves : {I : Type 0} (first second : List I) → IsShort (first ++ second) → IsShort first × IsShort second
short_halves first second short =
    let long = length-append first second in
    (omega arith, omega arith)

-- what holds of each item of a list holds of each item of both halves
pub all_halves : {I : Type 0} (P : I → Type 0) (first second : List I)
    → All P (first ++ second) → All P first × All P second
all_halves {I} P first second all =
    let long = length-append first second in (
      λ i d within. subst P (get_or_append_left first second d i within) (all i d (omega arith)),
      λ i d within. subst P (get_or-append-add first second i d) (all (length first + i) d (omega arith)),
    )

-- if each element of a list is in a relation to every later one, the same holds in both halves
pub pairs_halves : {I : Type 0} (R : I → I → Type 0) (first second : List I)
    → AllPairs R (first ++ second) → AllPairs R first × AllPairs R second
pairs_halves {I} R first second all =
    let long = length-append first second in (
      λ i j d below within.
          let inside : i < length first = omega arith in
          subst (λ (y : I). R (get_or first i d) y) (get_or_append_left first second d j within)
          (subst (λ (x : I). R x (get_or (first ++ second) j d))
          (get_or_append_left first second d i inside) (all i j d below (omega arith))),
      λ i j d below within.
          subst (λ (y : I). R (get_or second i d) y) (get_or-append-add first second j d)
          (subst (λ (x : I). R x (get_or (first ++ second) (length first + j) d))
          (get_or-append-add first second i d)
          (all (length first + i) (length first + j) d (omega arith) (omega arith))),
    )

-- if the places of a list rise, they rise in both halves
pub rising_halves : {I : Type 0} (place : I → ℕ) (first second : List I)
    → PlacesRise place (first ++ second) → PlacesRise place first × PlacesRise place second
rising_halves place first second rise = pairs_halves (λ a b. place a < place b) first second rise

-- both halves of a list that is placed are placed
pub placed_halves : {I : Type 0} (place : I → ℕ) (first second : List I)
    → IsPlaced place (first ++ second) → IsPlaced place first × IsPlaced place second
placed_halves place first second placed =
    let short = short_halves first second placed.0 in
    let rise = rising_halves place first second placed.1 in
    ((short.0, rise.0), (short.1, rise.1))
