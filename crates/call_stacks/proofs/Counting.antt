-- Matches by counting: the closer of an opener is the one with which closers first outnumber the openers after it.
use Rattle.std.proofs.Common.{◌≡◌, ℕ, zero, suc, ◌+◌, ◌-◌, ◌<◌, ◌≤◌, ◌⊎◌, cond, Option, Some, None, refl, sym, ap, subst, ◌∙◌, ⊎_elim, inl, inr, arith}
use Rattle.std.proofs.Common.{List, [], ◌∷◌, take, drop}
use Rattle.std.specs.Prelude.{slice_get, slice_range, option_map}
use Rattle.std.proofs.lemmas.Bool.{cases_lt}
use Rattle.std.proofs.lemmas.List.{drop-drop}
use Rattle.std.proofs.lemmas.List.Recursion.{is_count_by}
use Rattle.std.proofs.lemmas.Option.{none-some, same_Some}
use Rattle.call_stacks.specs.Matching.{Side, opener, closer, neither, is_opener, is_closer, opened, closed, Match, IsUnmatched, IsStray}

-- how many calls a record opens, and how many it closes
abbrev pub opens : Side → ℕ
opens opener = 1
opens closer = 0
opens neither = 0

abbrev pub closes : Side → ℕ
closes opener = 0
closes closer = 1
closes neither = 0

abbrev pub all_opens : List Side → ℕ
all_opens [] = 0
all_opens (s ∷ later) = opens s + all_opens later

abbrev pub all_closes : List Side → ℕ
all_closes [] = 0
all_closes (s ∷ later) = closes s + all_closes later

opens_step : (s : Side) (n : ℕ) → opens s + n ≡ cond (is_opener s) (1 + n) n
opens_step opener n = refl
opens_step closer n = omega arith
opens_step neither n = omega arith

closes_step : (s : Side) (n : ℕ) → closes s + n ≡ cond (is_closer s) (1 + n) n
closes_step opener n = omega arith
closes_step closer n = refl
closes_step neither n = omega arith

pub opened_is : (sides : List Side) → all_opens sides ≡ opened sides
opened_is sides = is_count_by all_opens is_opener refl (λ s later. opens_step s (all_opens later)) sides

pub closed_is : (sides : List Side) → all_closes sides ≡ closed sides
closed_is sides = is_count_by all_closes is_closer refl (λ s later. closes_step s (all_closes later)) sides

-- this is the first position at which the closers outnumber the openers by this many
record Reaches (more : ℕ) (sides : List Side) (q : ℕ) : Type 0 where
  closer_there : slice_get sides q ≡ Some closer
  reached : all_closes (take (suc q) sides) ≡ all_opens (take (suc q) sides) + more
  not_before : (t : ℕ) → t ≤ q → all_closes (take t sides) < all_opens (take t sides) + more

later_before : (s : Side) (more after : ℕ) (sides : List Side) (q : ℕ) → after + closes s ≡ more + opens s → 0 < more → Reaches after sides q
    → (t : ℕ) → t ≤ suc q → all_closes (take t (s ∷ sides)) < all_opens (take t (s ∷ sides)) + more
later_before s more after sides q e some reaches zero within = omega arith
later_before s more after sides q e some reaches (suc t) within = let before = reaches.not_before t (omega arith) in omega arith

reaches_later : (s : Side) (more after : ℕ) (sides : List Side) (q : ℕ) → after + closes s ≡ more + opens s → 0 < more
    → Reaches after sides q → Reaches more (s ∷ sides) (suc q)
reaches_later s more after sides q e some reaches =
    let reached = reaches.reached in
    record {
      closer_there = reaches.closer_there;
      reached = omega arith;
      not_before = later_before s more after sides q e some reaches;
    }

reaches_back : (s : Side) (more after : ℕ) (sides : List Side) (q : ℕ) → after + closes s ≡ more + opens s
    → Reaches more (s ∷ sides) (suc q) → Reaches after sides q
reaches_back s more after sides q e reaches =
    let reached = reaches.reached in
    record {
      closer_there = reaches.closer_there;
      reached = omega arith;
      not_before = λ t within. let before = reaches.not_before (suc t) (omega arith) in omega arith;
    }

reaches_here : (sides : List Side) → Reaches 1 (closer ∷ sides) 0
reaches_here sides = record {
  closer_there = refl;
  reached = omega arith;
  not_before = λ t within. let none : t ≡ 0 = omega arith in
      subst (λ (k : ℕ). all_closes (take k (closer ∷ sides)) < all_opens (take k (closer ∷ sides)) + 1) (sym none) (omega arith);
}

-- ---- the closer of a call

-- The position of the closer of a call that is open before these records, with k calls open inside it: the closer with
-- which closers first outnumber openers by more than k. There is none if nothing closes the call.
abbrev pub closing : List Side → ℕ → Option ℕ
closing [] k = None
closing (opener ∷ later) k = option_map suc (closing later (suc k))
closing (closer ∷ later) zero = Some 0
closing (closer ∷ later) (suc k) = option_map suc (closing later k)
closing (neither ∷ later) k = option_map suc (closing later k)

closing_later : (s : Side) (k after : ℕ) (later : List Side) (o : Option ℕ) → after + closes s ≡ k + 1 + opens s
    → ((p : ℕ) → o ≡ Some p → Reaches after later p) → (q : ℕ) → option_map suc o ≡ Some q → Reaches (k + 1) (s ∷ later) q
closing_later s k after later None e ih q is = absurd cc
closing_later s k after later (Some p) e ih q is =
    subst (λ (n : ℕ). Reaches (k + 1) (s ∷ later) n) (same_Some (suc p) q is) (reaches_later s (k + 1) after later p e (omega arith) (ih p refl))

closing_reaches : (sides : List Side) (k q : ℕ) → closing sides k ≡ Some q → Reaches (k + 1) sides q
closing_reaches [] k q e = absurd cc
closing_reaches (opener ∷ later) k q e =
    closing_later opener k (suc k + 1) later (closing later (suc k)) (omega arith) (λ p is. closing_reaches later (suc k) p is) q e
closing_reaches (closer ∷ later) zero q e = subst (λ (n : ℕ). Reaches 1 (closer ∷ later) n) (same_Some 0 q e) (reaches_here later)
closing_reaches (closer ∷ later) (suc k) q e =
    closing_later closer (suc k) (k + 1) later (closing later k) (omega arith) (λ p is. closing_reaches later k p is) q e
closing_reaches (neither ∷ later) k q e =
    closing_later neither k (k + 1) later (closing later k) (omega arith) (λ p is. closing_reaches later k p is) q e

reaches_closing : (sides : List Side) (k q : ℕ) → Reaches (k + 1) sides q → closing sides k ≡ Some q
reaches_closing [] k q reaches = let none = reaches.closer_there in absurd cc
reaches_closing (opener ∷ later) k zero reaches = let there = reaches.closer_there in absurd cc
reaches_closing (neither ∷ later) k zero reaches = let there = reaches.closer_there in absurd cc
reaches_closing (closer ∷ later) zero zero reaches = refl
reaches_closing (closer ∷ later) (suc k) zero reaches = let reached = reaches.reached in absurd (omega arith)
reaches_closing (opener ∷ later) k (suc q) reaches =
    ap (option_map suc) (reaches_closing later (suc k) q (reaches_back opener (k + 1) (suc k + 1) later q (omega arith) reaches))
reaches_closing (closer ∷ later) zero (suc q) reaches = let before = reaches.not_before 1 (omega arith) in absurd (omega arith)
reaches_closing (closer ∷ later) (suc k) (suc q) reaches =
    ap (option_map suc) (reaches_closing later k q (reaches_back closer (suc k + 1) (k + 1) later q (omega arith) reaches))
reaches_closing (neither ∷ later) k (suc q) reaches =
    ap (option_map suc) (reaches_closing later k q (reaches_back neither (k + 1) (k + 1) later q (omega arith) reaches))

-- ---- lists at their positions

drop_at_get : {X : Type 0} (xs : List X) (i : ℕ) (x : X) → slice_get xs i ≡ Some x → drop i xs ≡ x ∷ drop (suc i) xs
drop_at_get [] i x e = absurd cc
drop_at_get (y ∷ xs) zero x e = let same : y ≡ x = cc in ap (λ t. t ∷ xs) same
drop_at_get (y ∷ xs) (suc i) x e = drop_at_get xs i x e

pub get-drop : {X : Type 0} (xs : List X) (a q : ℕ) → slice_get (drop a xs) q ≡ slice_get xs (a + q)
get-drop xs zero q = ap (slice_get xs) (omega arith)
get-drop [] (suc a) q = refl
get-drop (x ∷ xs) (suc a) q =
    let next : suc a + q ≡ suc (a + q) = omega arith in
    get-drop xs a q ∙ sym (ap (slice_get (x ∷ xs)) next)

-- the stretch that begins with an opener
range_from : (sides : List Side) (i t : ℕ) → slice_get sides i ≡ Some opener
    → slice_range sides i (i + 1 + t) ≡ opener ∷ take t (drop (suc i) sides)
range_from sides i t e =
    let n : i + 1 + t - i ≡ suc t = omega arith in
    ap (λ k. take k (drop i sides)) n ∙ ap (take (suc t)) (drop_at_get sides i opener e)

range_counts : (sides : List Side) (i t k : ℕ) → slice_get sides i ≡ Some opener → k ≡ i + 1 + t
    → (opened (slice_range sides i k) ≡ 1 + all_opens (take t (drop (suc i) sides)))
    × (closed (slice_range sides i k) ≡ all_closes (take t (drop (suc i) sides)))
range_counts sides i t k e same =
    let range : slice_range sides i k ≡ opener ∷ take t (drop (suc i) sides) = ap (slice_range sides i) same ∙ range_from sides i t e in
    let many : 0 + all_closes (take t (drop (suc i) sides)) ≡ all_closes (take t (drop (suc i) sides)) = omega arith in (
      sym (opened_is (slice_range sides i k)) ∙ ap all_opens range,
      sym (closed_is (slice_range sides i k)) ∙ ap all_closes range ∙ many,
    )

pub match_closing : (sides : List Side) (i j : ℕ) → Match sides i j → (q : ℕ) × (j ≡ i + 1 + q) × (closing (drop (suc i) sides) 0 ≡ Some q)
match_closing sides i j found =
    let after = found.after in
    let q = j - (i + 1) in
    let place : j ≡ i + 1 + q = omega arith in
    let whole = range_counts sides i (suc q) (j + 1) found.opens (omega arith) in
    let open_whole = whole.0 in
    let close_whole = whole.1 in
    let equal = found.equal in (
      q,
      place,
      reaches_closing (drop (suc i) sides) 0 q (record {
        closer_there = get-drop sides (suc i) q ∙ ap (slice_get sides) (let n : suc i + q ≡ j = omega arith in n) ∙ found.closes;
        reached = omega arith;
        not_before = λ t within.
            let part = range_counts sides i t (i + 1 + t) found.opens refl in
            let open_part = part.0 in
            let close_part = part.1 in
            let more = found.more (i + 1 + t) (omega arith) (omega arith) in
            omega arith;
      }),
    )

pub closing_match : (sides : List Side) (i j q : ℕ) → slice_get sides i ≡ Some opener → closing (drop (suc i) sides) 0 ≡ Some q → j ≡ i + 1 + q
    → Match sides i j
closing_match sides i j q e is place =
    let reaches = closing_reaches (drop (suc i) sides) 0 q is in
    let whole = range_counts sides i (suc q) (j + 1) e (omega arith) in
    let open_whole = whole.0 in
    let close_whole = whole.1 in
    let reached = reaches.reached in
    record {
      opens = e;
      closes = ap (slice_get sides) (let n : j ≡ suc i + q = omega arith in n) ∙ sym (get-drop sides (suc i) q) ∙ reaches.closer_there;
      after = omega arith;
      equal = omega arith;
      more = λ k past within.
          let part = range_counts sides i (k - (i + 1)) k e (omega arith) in
          let open_part = part.0 in
          let close_part = part.1 in
          let before = reaches.not_before (k - (i + 1)) (omega arith) in
          omega arith;
    }

-- an opener that no closer matches is one that nothing closes
pub unmatched_open : (sides : List Side) (i : ℕ) (o : Option ℕ) → closing (drop (suc i) sides) 0 ≡ o → IsUnmatched sides i → o ≡ None
unmatched_open sides i None is unmatched = refl
unmatched_open sides i (Some q) is unmatched = absurd (unmatched.1 (i + 1 + q) (closing_match sides i (i + 1 + q) q unmatched.0 is refl))

pub open_unmatched : (sides : List Side) (i : ℕ) → slice_get sides i ≡ Some opener → closing (drop (suc i) sides) 0 ≡ None → IsUnmatched sides i
open_unmatched sides i opens is =
    (opens, λ j found. let at = match_closing sides i j found in none-some at.0 (sym is ∙ at.2))

-- ---- one match

pub one_closer : (sides : List Side) (i j k : ℕ) → Match sides i j → Match sides i k → j ≡ k
one_closer sides i j k first second =
    let a = match_closing sides i j first in
    let b = match_closing sides i k second in
    a.1 ∙ ap (λ q. i + 1 + q) (same_Some a.0 b.0 (sym a.2 ∙ b.2)) ∙ sym b.1

-- a closer closes one call
one_call : (sides : List Side) (k more q : ℕ) → closing sides k ≡ Some q → closing sides more ≡ Some q → k ≡ more
one_call sides k more q first second =
    let a = (closing_reaches sides k q first).reached in
    let b = (closing_reaches sides more q second).reached in
    omega arith

later_at : (o : Option ℕ) (q p : ℕ) → option_map suc o ≡ Some q → q ≡ suc p → o ≡ Some p
later_at None q p e same = absurd cc
later_at (Some n) q p e same = ap Some (let is = same_Some (suc n) q e in omega arith)

-- what closes a call closes no opener inside it
not_within : (sides : List Side) (k i q : ℕ) → closing sides k ≡ Some (i + 1 + q) → slice_get sides i ≡ Some opener
    → closing (drop (suc i) sides) 0 ≡ Some q → ⊥
not_within [] k i q e opens is = none-some (i + 1 + q) e
not_within (opener ∷ later) k zero q e opens is =
    let first = later_at (closing later (suc k)) (0 + 1 + q) q e (omega arith) in
    let same = one_call later (suc k) 0 q first is in
    absurd (omega arith)
not_within (closer ∷ later) k zero q e opens is = absurd cc
not_within (neither ∷ later) k zero q e opens is = absurd cc
not_within (opener ∷ later) k (suc i) q e opens is =
    not_within later (suc k) i q (later_at (closing later (suc k)) (suc i + 1 + q) (i + 1 + q) e (omega arith)) opens is
not_within (closer ∷ later) zero (suc i) q e opens is = let same = same_Some 0 (suc i + 1 + q) e in absurd (omega arith)
not_within (closer ∷ later) (suc k) (suc i) q e opens is =
    not_within later k i q (later_at (closing later k) (suc i + 1 + q) (i + 1 + q) e (omega arith)) opens is
not_within (neither ∷ later) k (suc i) q e opens is =
    not_within later k i q (later_at (closing later k) (suc i + 1 + q) (i + 1 + q) e (omega arith)) opens is

two_openers : (sides : List Side) (i j k : ℕ) → Match sides i k → Match sides j k → i < j → ⊥
two_openers sides i j k outer inner lt =
    let a = match_closing sides i k outer in
    let b = match_closing sides j k inner in
    let outer_place = a.1 in
    let inner_place = b.1 in
    let d = j - (i + 1) in
    let closer_at : a.0 ≡ d + 1 + b.0 = omega arith in
    let opener_at : suc i + d ≡ j = omega arith in
    let past : suc i + suc d ≡ suc j = omega arith in
    not_within (drop (suc i) sides) 0 d b.0 (a.2 ∙ ap Some closer_at) (get-drop sides (suc i) d ∙ ap (slice_get sides) opener_at ∙ inner.opens)
    (ap (λ l. closing l 0) (drop-drop (suc d) (suc i) sides ∙ ap (λ n. drop n sides) past) ∙ b.2)

pub one_opener : (sides : List Side) (i j k : ℕ) → Match sides i k → Match sides j k → i ≡ j
one_opener sides i j k first second =
    ⊎_elim
    (λ (lt : i < j). absurd (two_openers sides i j k first second lt))
    (λ (le : j ≤ i).
    ⊎_elim (λ (lt : j < i). absurd (two_openers sides j i k second first lt)) (λ (back : i ≤ j). omega arith) (cases_lt j i))
    (cases_lt i j)

-- ---- closers that match no opener

-- what closes a call that is open before these records matches no opener of theirs
pub closing_stray : (sides : List Side) (k q : ℕ) → closing sides k ≡ Some q → IsStray sides q
closing_stray sides k q e = (
  (closing_reaches sides k q e).closer_there,
  λ i found. let at = match_closing sides i q found in not_within sides k i at.0 (e ∙ ap Some at.1) found.opens at.2,
)

abbrev MatchesOrCloses : List Side → ℕ → Type 0
MatchesOrCloses sides q = ((i : ℕ) × Match sides i q) ⊎ ((k : ℕ) × (closing sides k ≡ Some q))

settled_later : (s : Side) (later : List Side) (q : ℕ) → MatchesOrCloses later q → MatchesOrCloses (s ∷ later) (suc q)
settled_later s later q (inl found) =
    let at = match_closing later found.0 q found.1 in
    let place = at.1 in
    inl (suc found.0, closing_match (s ∷ later) (suc found.0) (suc q) at.0 found.1.opens at.2 (omega arith))
settled_later opener later q (inr (zero, e)) = inl (0, closing_match (opener ∷ later) 0 (suc q) q refl e (omega arith))
settled_later opener later q (inr (suc k, e)) = inr (k, ap (option_map suc) e)
settled_later closer later q (inr (k, e)) = inr (suc k, ap (option_map suc) e)
settled_later neither later q (inr (k, e)) = inr (k, ap (option_map suc) e)

settled : (sides : List Side) (q : ℕ) → slice_get sides q ≡ Some closer → MatchesOrCloses sides q
settled [] q e = absurd cc
settled (opener ∷ later) zero e = absurd cc
settled (closer ∷ later) zero e = inr (0, refl)
settled (neither ∷ later) zero e = absurd cc
settled (s ∷ later) (suc q) e = settled_later s later q (settled later q e)

pub stray_closing : (sides : List Side) (q : ℕ) → IsStray sides q → (k : ℕ) × (closing sides k ≡ Some q)
stray_closing sides q stray =
    ⊎_elim (λ (m : (i : ℕ) × Match sides i q). absurd (stray.1 m.0 m.1)) (λ (c : (k : ℕ) × (closing sides k ≡ Some q)). c)
    (settled sides q stray.0)
