-- Lists whose places rise: what is read from them, what is kept of them, and such lists joined.
use Rattle.std.proofs.Common.{ℕ, ◌+◌, ◌<◌, Bool, List, [], ◌∷◌, ◌++◌, map, sym, subst, get_or, arith}
use Rattle.std.specs.Prelude.{All, AllPairs, filter}
use Rattle.std.specs.List.{flat_map}
use Rattle.std.specs.List.Sorted.{IsStrictlyIncreasing}
use Rattle.std.proofs.lemmas.List.Concat.{flat_map-cons}
use Rattle.std.proofs.lemmas.List.Elements.{All-append, All-head, All-nil, All-tail}
use Rattle.std.proofs.lemmas.List.Kept.{AllPairs-filter}
use Rattle.capture_frame.proofs.Pairs.{pairs_append, pairs_head, pairs_map, pairs_nil, pairs_tail}
use Rattle.summary_law.specs.Fits.{PlacesRise}

-- ---- each element, and every later one

-- what holds of each list holds in all of them
pub all_flat : {X Y : Type 0} (P : Y → Type 0) (of : X → List Y) (xs : List X) → All (λ x. All P (of x)) xs → All P (flat_map of xs)
all_flat P of [] all = All-nil P
all_flat P of (x ∷ xs) all =
    subst (All P) (sym (flat_map-cons of x xs))
    (All-append P (of x) (flat_map of xs) (All-head (λ a. All P (of a)) x xs all) (all_flat P of xs (All-tail (λ a. All P (of a)) x xs all)))

-- it holds between each element of the one list and each element of the other
abbrev pub Between : {X Y : Type 0} → (Y → Y → Type 0) → (X → List Y) → X → X → Type 0
Between R of a b = All (λ x. All (R x) (of b)) (of a)

-- it holds in joined lists, if it holds within each and between each and every later one
pub pairs_flat : {X Y : Type 0} (R : Y → Y → Type 0) (of : X → List Y) (xs : List X) → All (λ x. AllPairs R (of x)) xs → AllPairs (Between R of) xs
    → AllPairs R (flat_map of xs)
pairs_flat R of [] each between = pairs_nil R
pairs_flat R of (x ∷ xs) each between =
    let later = pairs_head (Between R of) x xs between in
    let rest = pairs_flat R of xs (All-tail (λ a. AllPairs R (of a)) x xs each) (pairs_tail (Between R of) x xs between) in
    subst (AllPairs R) (sym (flat_map-cons of x xs))
    (pairs_append R (of x) (flat_map of xs) (All-head (λ a. AllPairs R (of a)) x xs each) rest
    (λ i d inside. all_flat (R (get_or (of x) i d)) of xs (λ k e within. later k e within i d inside)))

-- ---- places

-- if the places of things rise, so do those of the things that pass a test
pub rising_kept : {E : Type 0} (place : E → ℕ) (test : E → Bool) (things : List E) → PlacesRise place things → PlacesRise place (filter test things)
rising_kept place test things rise = AllPairs-filter (λ a b. place a < place b) test things rise

-- places that rise are a list that increases strictly
pub increasing_places : {E : Type 0} (place : E → ℕ) (things : List E) → PlacesRise place things → IsStrictlyIncreasing (map place things)
increasing_places place things rise k within = pairs_map (λ a b. a < b) place things rise k (k + 1) 0 (omega arith) within
