-- The matches in two lists joined.
use Rattle.std.proofs.Common.{◌≡◌, ℕ, zero, suc, ◌+◌, ◌-◌, ◌<◌, ◌≤◌, ◌⊎◌, Option, Some, None, refl, sym, ap, subst, ◌∙◌, ⊎_elim, inl, inr, arith}
use Rattle.std.proofs.Common.{List, [], ◌∷◌, ◌++◌, map, drop, length, reverse}
use Rattle.std.specs.Option.{option_or}
use Rattle.std.specs.Prelude.{slice_get, option_map}
use Rattle.std.proofs.lemmas.Bool.{cases_lt}
use Rattle.std.proofs.lemmas.List.{drop-append-le, drop-drop, drop_at, length-drop, length-map, length-reverse, map-append, reverse-append}
use Rattle.std.proofs.lemmas.List.Sorted.{Contains-permutation, IsPermutation-reverse, IsPermutation-sym}
use Rattle.std.proofs.lemmas.Option.{same_Some, slice_get-map, slice_get_within}
use Rattle.summary_law.specs.Ranked.{ListsInOrder}
use Rattle.summary_law.proofs.Members.{In, contained, get_in, in-map, in_get, in_list, listed, Rises, rises-map}
use Rattle.call_stacks.specs.Matching.{Side, opener, closer, neither, Match, IsUnmatched, IsStray, IsJoinedMatch, in_first, in_second, across, JoinedMatches}
use Rattle.call_stacks.proofs.Counting.{closing, closing_match, closing_stray, get-drop, match_closing, open_unmatched, stray_closing, unmatched_open}
use Rattle.call_stacks.proofs.Lists.{from_mapped, get_drop_one, put_rises}
use Rattle.call_stacks.proofs.Model.{put}

-- ---- the closers that match no opener

abbrev strays_of : List Side → List ℕ
strays_of [] = []
strays_of (s ∷ later) = put s 0 (map suc (strays_of later))

get-strays : (sides : List Side) (k : ℕ) → slice_get (strays_of sides) k ≡ closing sides k
get-strays [] k = refl
get-strays (opener ∷ later) k =
    get_drop_one (map suc (strays_of later)) k ∙ slice_get-map suc (strays_of later) (suc k) ∙ ap (option_map suc) (get-strays later (suc k))
get-strays (closer ∷ later) zero = refl
get-strays (closer ∷ later) (suc k) = slice_get-map suc (strays_of later) k ∙ ap (option_map suc) (get-strays later k)
get-strays (neither ∷ later) k = slice_get-map suc (strays_of later) k ∙ ap (option_map suc) (get-strays later k)

above_first : (xs : List ℕ) (y : ℕ) → In y (map suc xs) → 0 < y
above_first xs y there = let found = in-map suc xs y there in let is = found.2 in omega arith

shifted : (xs : List ℕ) → Rises (λ i. i) xs → Rises (λ i. i) (map suc xs)
shifted xs rises = rises-map suc (λ i. i) xs (shift xs rises)
  where
    shift : (xs : List ℕ) → Rises (λ i. i) xs → Rises (λ i. suc i) xs
    shift [] rises = tt
    shift (x ∷ xs) rises = (λ y there. let less = rises.0 y there in omega arith, shift xs rises.1)

strays_rise : (sides : List Side) → Rises (λ i. i) (strays_of sides)
strays_rise [] = tt
strays_rise (s ∷ later) =
    put_rises (λ i. i) s 0 (map suc (strays_of later)) (above_first (strays_of later)) (shifted (strays_of later) (strays_rise later))

strays_listed : (sides : List Side) → ListsInOrder (λ j. j) (IsStray sides) (strays_of sides)
strays_listed sides =
    listed (λ j. j) (IsStray sides) (strays_of sides) (strays_rise sides)
    (λ j there. let k = in_get (strays_of sides) j there in closing_stray sides k.0 j (sym (get-strays sides k.0) ∙ k.1))
    (λ j is. let k = stray_closing sides j is in get_in (strays_of sides) k.0 j (get-strays sides k.0 ∙ k.1))

-- ---- the openers that no closer matches

-- how many calls are open after these records, if so many are before them
abbrev depth : List Side → ℕ → ℕ
depth [] k = k
depth (opener ∷ later) k = depth later (suc k)
depth (closer ∷ later) zero = depth later 0
depth (closer ∷ later) (suc k) = depth later k
depth (neither ∷ later) k = depth later k

-- the openers that no closer matches, with a record before them
abbrev with_first : Side → Option ℕ → List ℕ → List ℕ
with_first opener None later = 0 ∷ later
with_first opener (Some q) later = later
with_first closer o later = later
with_first neither o later = later

abbrev open_of : List Side → List ℕ
open_of [] = []
open_of (s ∷ later) = with_first s (closing later 0) (map suc (open_of later))

abbrev IsOpenAt : List Side → ℕ → Type 0
IsOpenAt sides i = (slice_get sides i ≡ Some opener) × (closing (drop (suc i) sides) 0 ≡ None)

-- one call more is open if nothing closes it
abbrev one_more : Option ℕ → ℕ → ℕ
one_more None n = suc n
one_more (Some q) n = n

one_more_later : (o : Option ℕ) (n : ℕ) → one_more o n ≡ one_more (option_map suc o) n
one_more_later None n = refl
one_more_later (Some q) n = refl

depth-suc : (sides : List Side) (k : ℕ) → depth sides (suc k) ≡ one_more (closing sides k) (depth sides k)
depth-suc [] k = refl
depth-suc (opener ∷ later) k = depth-suc later (suc k) ∙ one_more_later (closing later (suc k)) (depth later (suc k))
depth-suc (closer ∷ later) zero = refl
depth-suc (closer ∷ later) (suc k) = depth-suc later k ∙ one_more_later (closing later k) (depth later k)
depth-suc (neither ∷ later) k = depth-suc later k ∙ one_more_later (closing later k) (depth later k)

length-with_first : (o : Option ℕ) (later : List ℕ) → length (with_first opener o later) ≡ one_more o (length later)
length-with_first None later = refl
length-with_first (Some q) later = refl

length-open : (sides : List Side) → length (map suc (open_of sides)) ≡ depth sides 0
length-open [] = refl
length-open (opener ∷ later) =
    length-map (with_first opener (closing later 0) (map suc (open_of later))) suc ∙ length-with_first (closing later 0) (map suc (open_of later))
    ∙ ap (one_more (closing later 0)) (length-open later) ∙ sym (depth-suc later 0)
length-open (closer ∷ later) = length-map (map suc (open_of later)) suc ∙ length-open later
length-open (neither ∷ later) = length-map (map suc (open_of later)) suc ∙ length-open later

with_first_rises : (s : Side) (o : Option ℕ) (xs : List ℕ) → Rises (λ i. i) xs → Rises (λ i. i) (with_first s o (map suc xs))
with_first_rises opener None xs rises = (above_first xs, shifted xs rises)
with_first_rises opener (Some q) xs rises = shifted xs rises
with_first_rises closer o xs rises = shifted xs rises
with_first_rises neither o xs rises = shifted xs rises

open_rise : (sides : List Side) → Rises (λ i. i) (open_of sides)
open_rise [] = tt
open_rise (s ∷ later) = with_first_rises s (closing later 0) (open_of later) (open_rise later)

-- ---- counted from the end

reverse_cons : {X : Type 0} (x : X) (xs : List X) → reverse (x ∷ xs) ≡ reverse xs ++ x ∷ []
reverse_cons x xs = reverse-append (x ∷ []) xs

reverse-map : {X Y : Type 0} (f : X → Y) (xs : List X) → reverse (map f xs) ≡ map f (reverse xs)
reverse-map f [] = refl
reverse-map f (x ∷ xs) =
    reverse_cons (f x) (map f xs) ∙ ap (λ t. t ++ f x ∷ []) (reverse-map f xs) ∙ sym (map-append f (reverse xs) (x ∷ [])) ∙ ap (map f) (sym (reverse_cons x xs))

get_left : {X : Type 0} (xs ys : List X) (k : ℕ) → k < length xs → slice_get (xs ++ ys) k ≡ slice_get xs k
get_left [] ys k within = absurd (omega arith)
get_left (x ∷ xs) ys zero within = refl
get_left (x ∷ xs) ys (suc k) within = get_left xs ys k (omega arith)

get_last : {X : Type 0} (xs : List X) (y : X) (k : ℕ) → k ≡ length xs → slice_get (xs ++ y ∷ []) k ≡ Some y
get_last [] y zero is = refl
get_last [] y (suc k) is = absurd (omega arith)
get_last (x ∷ xs) y zero is = absurd (omega arith)
get_last (x ∷ xs) y (suc k) is = get_last xs y k (omega arith)

get_push : {X : Type 0} (xs : List X) (y : X) (k : ℕ) (x : X) → slice_get (xs ++ y ∷ []) k ≡ Some x → (slice_get xs k ≡ Some x) ⊎ ((k ≡ length xs) × (x ≡ y))
get_push [] y zero x e = inr (refl, sym (same_Some y x e))
get_push [] y (suc k) x e = absurd cc
get_push (z ∷ xs) y zero x e = inl e
get_push (z ∷ xs) y (suc k) x e = elim (get_push xs y k x e) [ inl there ↦ inl there | inr here ↦ inr (ap suc here.0, here.1) ]

get-later : (xs : List ℕ) (k : ℕ) → slice_get (reverse (map suc xs)) k ≡ option_map suc (slice_get (reverse xs) k)
get-later xs k = ap (λ l. slice_get l k) (reverse-map suc xs) ∙ slice_get-map suc (reverse xs) k

-- as many calls are open after the last ones as there are before this one, from the end
length-later : (sides : List Side) → length (reverse (map suc (open_of sides))) ≡ depth sides 0
length-later sides = length-reverse (map suc (open_of sides)) ∙ length-open sides

-- the k-th of them from the end is an opener after which k calls more are open
abbrev IsLastButAt : List Side → ℕ → ℕ → Type 0
IsLastButAt sides k i = IsOpenAt sides i × (k ≡ depth (drop (suc i) sides) 0)

open_later : (s : Side) (later : List Side) (k i : ℕ) → ((j : ℕ) → slice_get (reverse (open_of later)) k ≡ Some j → IsLastButAt later k j)
    → slice_get (reverse (map suc (open_of later))) k ≡ Some i → IsLastButAt (s ∷ later) k i
open_later s later k i rest is =
    let at = from_mapped suc (slice_get (reverse (open_of later)) k) i (sym (get-later (open_of later) k) ∙ is) in
    subst (IsLastButAt (s ∷ later) k) at.2 (rest at.0 at.1)

open_opener : (later : List Side) (k i : ℕ) (o : Option ℕ) → closing later 0 ≡ o
    → ((j : ℕ) → slice_get (reverse (open_of later)) k ≡ Some j → IsLastButAt later k j)
    → slice_get (reverse (with_first opener o (map suc (open_of later)))) k ≡ Some i → IsLastButAt (opener ∷ later) k i
open_opener later k i (Some q) closes rest is = open_later opener later k i rest is
open_opener later k i None closes rest is =
    elim (get_push (reverse (map suc (open_of later))) 0 k i (ap (λ l. slice_get l k) (sym (reverse_cons 0 (map suc (open_of later)))) ∙ is)) [
      | inl there ↦ open_later opener later k i rest there
      | inr here ↦ subst (IsLastButAt (opener ∷ later) k) (sym here.1) ((refl, closes), here.0 ∙ length-later later)
    ]

open_at : (sides : List Side) (k i : ℕ) → slice_get (reverse (open_of sides)) k ≡ Some i → IsLastButAt sides k i
open_at [] k i is = absurd cc
open_at (opener ∷ later) k i is = open_opener later k i (closing later 0) refl (λ j there. open_at later k j there) is
open_at (closer ∷ later) k i is = open_later closer later k i (λ j there. open_at later k j there) is
open_at (neither ∷ later) k i is = open_later neither later k i (λ j there. open_at later k j there) is

later_open : (s : Side) (o : Option ℕ) (xs : List ℕ) (k i : ℕ) → slice_get (reverse xs) k ≡ Some i
    → slice_get (reverse (with_first s o (map suc xs))) k ≡ Some (suc i)
later_open opener None xs k i is =
    let there : slice_get (reverse (map suc xs)) k ≡ Some (suc i) = get-later xs k ∙ ap (option_map suc) is in
    ap (λ l. slice_get l k) (reverse_cons 0 (map suc xs))
    ∙ get_left (reverse (map suc xs)) (0 ∷ []) k (slice_get_within (reverse (map suc xs)) k (suc i) there) ∙ there
later_open opener (Some q) xs k i is = get-later xs k ∙ ap (option_map suc) is
later_open closer o xs k i is = get-later xs k ∙ ap (option_map suc) is
later_open neither o xs k i is = get-later xs k ∙ ap (option_map suc) is

at_open : (sides : List Side) (i : ℕ) → IsOpenAt sides i → slice_get (reverse (open_of sides)) (depth (drop (suc i) sides) 0) ≡ Some i
at_open [] i at = let none = at.0 in absurd cc
at_open (opener ∷ later) zero at =
    ap (λ o. slice_get (reverse (with_first opener o (map suc (open_of later)))) (depth later 0)) at.1
    ∙ ap (λ l. slice_get l (depth later 0)) (reverse_cons 0 (map suc (open_of later)))
    ∙ get_last (reverse (map suc (open_of later))) 0 (depth later 0) (sym (length-later later))
at_open (closer ∷ later) zero at = let there = at.0 in absurd cc
at_open (neither ∷ later) zero at = let there = at.0 in absurd cc
at_open (s ∷ later) (suc i) at = later_open s (closing later 0) (open_of later) (depth (drop (suc i) later) 0) i (at_open later i at)

unmatched_at : (sides : List Side) (i : ℕ) → IsUnmatched sides i → IsOpenAt sides i
unmatched_at sides i is = (is.0, unmatched_open sides i (closing (drop (suc i) sides) 0) refl is)

unmatched_listed : (sides : List Side) → ListsInOrder (λ i. i) (IsUnmatched sides) (open_of sides)
unmatched_listed sides =
    let moved = IsPermutation-reverse (open_of sides) in
    listed (λ i. i) (IsUnmatched sides) (open_of sides) (open_rise sides)
    (λ i there.
    let back = Contains-permutation (open_of sides) (reverse (open_of sides)) i moved (contained (open_of sides) i there) in
    let k = in_get (reverse (open_of sides)) i (in_list (reverse (open_of sides)) i back) in
    let at = open_at sides k.0 i k.1 in
    open_unmatched sides i at.0.0 at.0.1)
    (λ i is.
    let there = get_in (reverse (open_of sides)) (depth (drop (suc i) sides) 0) i (at_open sides i (unmatched_at sides i is)) in
    in_list (open_of sides) i
    (Contains-permutation (reverse (open_of sides)) (open_of sides) i (IsPermutation-sym (open_of sides) (reverse (open_of sides)) moved)
    (contained (reverse (open_of sides)) i there)))

-- ---- two lists joined

from_zero : (o : Option ℕ) → o ≡ option_map (λ q. 0 + q) o
from_zero None = refl
from_zero (Some q) = ap Some (omega arith)

one_later : (n : ℕ) (o p : Option ℕ)
    → option_map suc (option_or o (option_map (λ q. n + q) p)) ≡ option_or (option_map suc o) (option_map (λ q. suc n + q) p)
one_later n (Some q) p = refl
one_later n None None = refl
one_later n None (Some q) = ap Some (omega arith)

-- a call is closed in the first list, or else by the second list at the depth after the first
closing-append : (first second : List Side) (k : ℕ)
    → closing (first ++ second) k ≡ option_or (closing first k) (option_map (λ q. length first + q) (closing second (depth first k)))
closing-append [] second k = from_zero (closing second k)
closing-append (opener ∷ first) second k =
    ap (option_map suc) (closing-append first second (suc k)) ∙ one_later (length first) (closing first (suc k)) (closing second (depth first (suc k)))
closing-append (closer ∷ first) second zero = refl
closing-append (closer ∷ first) second (suc k) =
    ap (option_map suc) (closing-append first second k) ∙ one_later (length first) (closing first k) (closing second (depth first k))
closing-append (neither ∷ first) second k =
    ap (option_map suc) (closing-append first second k) ∙ one_later (length first) (closing first k) (closing second (depth first k))

module _ (first second : List Side) where
  -- the closer of an opener of the first list
  abbrev after_first : ℕ → Option ℕ → Option ℕ
  after_first i o = option_or o (option_map (λ q. length (drop (suc i) first) + q) (closing second (depth (drop (suc i) first) 0)))

  in_front : (i : ℕ) → i < length first
      → closing (drop (suc i) (first ++ second)) 0 ≡ after_first i (closing (drop (suc i) first) 0)
  in_front i within =
      ap (λ l. closing l 0) (drop-append-le (suc i) first second (omega arith)) ∙ closing-append (drop (suc i) first) second 0

  -- the second list
  in_back : (m : ℕ) → slice_get (first ++ second) (length first + m) ≡ slice_get second m
  in_back m = sym (get-drop (first ++ second) (length first) m) ∙ ap (λ l. slice_get l m) (drop_at first second (length first) refl)

  after_back : (m i : ℕ) → i ≡ length first + m → drop (suc i) (first ++ second) ≡ drop (suc m) second
  after_back m i is =
      ap (λ n. drop n (first ++ second)) (let n : suc i ≡ length first + suc m = omega arith in n)
      ∙ sym (drop-drop (suc m) (length first) (first ++ second)) ∙ ap (drop (suc m)) (drop_at first second (length first) refl)

  joined_from : (i j : ℕ) → IsJoinedMatch first second (open_of first) (strays_of second) i j → Match (first ++ second) i j
  joined_from i j (in_first found) =
      let at = match_closing first i j found in
      let within = slice_get_within first i opener found.opens in
      closing_match (first ++ second) i j at.0 (get_left first second i within ∙ found.opens) (in_front i within ∙ ap (after_first i) at.2) at.1
  joined_from i j (in_second m n found at_i at_j) =
      let at = match_closing second m n found in
      let place = at.1 in
      closing_match (first ++ second) i j at.0 (ap (slice_get (first ++ second)) at_i ∙ in_back m ∙ found.opens)
      (ap (λ l. closing l 0) (after_back m i at_i) ∙ at.2) (omega arith)
  joined_from i j (across k n opener_there closer_there at_j) =
      let at = open_at first k i opener_there in
      let within = slice_get_within first i opener at.0.0 in
      let long = length-drop (suc i) first in
      let closes : closing second (depth (drop (suc i) first) 0) ≡ Some n
      = ap (closing second) (sym at.1) ∙ sym (get-strays second k) ∙ closer_there in
      closing_match (first ++ second) i j (length (drop (suc i) first) + n) (get_left first second i within ∙ at.0.0)
      (in_front i within ∙ ap (after_first i) at.0.1 ∙ ap (option_map (λ q. length (drop (suc i) first) + q)) closes) (omega arith)

  to_first : (i j q : ℕ) (o : Option ℕ) → slice_get first i ≡ Some opener → j ≡ i + 1 + q → closing (drop (suc i) first) 0 ≡ o
      → after_first i o ≡ Some q → IsJoinedMatch first second (open_of first) (strays_of second) i j
  to_first i j q (Some p) opens place is same = in_first (closing_match first i j p opens is (place ∙ ap (λ n. i + 1 + n) (sym (same_Some p q same))))
  to_first i j q None opens place is same =
      let within = slice_get_within first i opener opens in
      let long = length-drop (suc i) first in
      let k = depth (drop (suc i) first) 0 in
      let at = from_mapped (λ n. length (drop (suc i) first) + n) (closing second k) q same in
      let far = at.2 in
      across k at.0 (at_open first i (opens, is)) (get-strays second k ∙ at.1) (omega arith)

  joined_to : (i j : ℕ) → Match (first ++ second) i j → IsJoinedMatch first second (open_of first) (strays_of second) i j
  joined_to i j found =
      let at = match_closing (first ++ second) i j found in
      let place = at.1 in
      ⊎_elim
      (λ (within : i < length first).
      to_first i j at.0 (closing (drop (suc i) first) 0) (sym (get_left first second i within) ∙ found.opens) at.1 refl
      (sym (in_front i within) ∙ at.2))
      (λ (past : length first ≤ i).
      let m = i - length first in
      let is : i ≡ length first + m = omega arith in
      in_second m (m + 1 + at.0)
      (closing_match second m (m + 1 + at.0) at.0 (sym (in_back m) ∙ ap (slice_get (first ++ second)) (sym is) ∙ found.opens)
      (ap (λ l. closing l 0) (sym (after_back m i is)) ∙ at.2) refl)
      is (omega arith))
      (cases_lt i (length first))

pub joined_matches : (first second : List Side) → JoinedMatches first second
joined_matches first second = record {
  unmatched = open_of first;
  strays = strays_of second;
  unmatched_are = unmatched_listed first;
  strays_are = strays_listed second;
  exact = λ i j. (joined_to first second i j, joined_from first second i j);
}
