-- What is noted of generations, and made known.
use Rattle.std.proofs.Common.{◌≡◌, ◌≤◌, ◌+◌, ℕ, zero, suc, List, [], ◌∷◌, ◌++◌, map, take, take_all, drop, set, length, add-one, Some, None, slice_get, refl, ap, subst, sym, arith}
use Rattle.listing_tables.specs.Gaps.{AreGapsBefore}
use Rattle.listing_tables.specs.Meanings.{BeginsEach, LearnsEach, LearnsOne, SpreadsEach, SpreadsOne, SpreadsTimes}
use Rattle.listing_tables.specs.declared.generations.Generation.{Generation}
use Rattle.listing_tables.specs.declared.handed.Handed.{Handed}
use Rattle.listing_tables.specs.declared.meanings.Known.TheVariants.{Nothing}
use Rattle.listing_tables.specs.declared.meanings.Meaning.{Meaning}
use Rattle.listing_tables.specs.declared.meanings.Meanings.{Meanings}
use Rattle.listing_tables.specs.declared.seen.Seen.{Seen}

-- one generation more has begun
pub begins_more : (seen : Seen) (a b : List Meaning) (generations : List Generation) (generation : Generation) (count : ℕ)
    → BeginsEach seen a b generations → AreGapsBefore seen generation.begin count
    → BeginsEach seen a (b ++ (record { gaps = count; known = Nothing; learnt = Nothing }) ∷ []) (generations ++ generation ∷ [])
begins_more seen a b [] generation count before gaps =
    let begun : Meaning = record { gaps = count; known = Nothing; learnt = Nothing } in
    (count, gaps, ap (λ (l : List Meaning). l ++ begun ∷ []) before)
begins_more seen a b (first ∷ generations) generation count before gaps =
    (before.0, before.1, begins_more seen _ b generations generation count before.2 gaps)

pub begins_next : (seen : Seen) (old before new : List Meaning) (generations : List Generation) (i : ℕ) (generation : Generation)
    (count : ℕ) → BeginsEach seen old before (take i generations) → take (i + 1) generations ≡ take i generations ++ generation ∷ []
    → AreGapsBefore seen generation.begin count
    → new ≡ before ++ (record { gaps = count; known = Nothing; learnt = Nothing }) ∷ []
    → BeginsEach seen old new (take (i + 1) generations)
begins_next seen old before new generations i generation count begun more gaps are =
    subst (λ (l : List Generation). BeginsEach seen old new l) (sym more)
    (subst (λ (l : List Meaning). BeginsEach seen old l (take i generations ++ generation ∷ [])) (sym are)
    (begins_more seen old before (take i generations) generation count begun gaps))

-- one pair more is spread
pub spreads_more : (a b c : List Meaning) (pairs : List (ℕ × ℕ)) (pair : ℕ × ℕ) → SpreadsEach a b pairs
    → SpreadsOne b c pair.0 pair.1 → SpreadsEach a c (pairs ++ pair ∷ [])
spreads_more a b c [] pair before one =
    (c, subst (λ (l : List Meaning). SpreadsOne l c pair.0 pair.1) before one, refl)
spreads_more a b c (first ∷ pairs) pair before one =
    (before.0, before.1, spreads_more before.0 b c pairs pair before.2 one)

-- the pairs are gone through once more
pub spreads_again : (a b c : List Meaning) (pairs : List (ℕ × ℕ)) (times : ℕ) → SpreadsTimes a b pairs times
    → SpreadsEach b c pairs → SpreadsTimes a c pairs (times + 1)
spreads_again a b c pairs times before each =
    let it : SpreadsTimes a c pairs (suc times) = (b, before, each) in
    rw add-one it

-- one object more is learnt of
pub learns_more : (a b c : Meanings) (objects : List Handed) (one : Handed) (before : ℕ) (others : List Handed) (after : ℕ)
    → LearnsEach a b objects before others after → LearnsOne b c one before others after
    → LearnsEach a c (objects ++ one ∷ []) before others after
learns_more a b c [] one before others after learnt more =
    (c, subst (λ (m : Meanings). LearnsOne m c one before others after) learnt more, refl)
learns_more a b c (first ∷ objects) one before others after learnt more =
    (learnt.0, learnt.1, learns_more learnt.0 b c objects one before others after learnt.2 more)

none_some : {X : Type 0} (x : X) → None ≡ Some x → ⊥
none_some x e = cc

same_some : {X : Type 0} (a b : X) → Some a ≡ Some b → a ≡ b
same_some a b e = cc

-- one element more
pub take_next : {X : Type 0} (xs : List X) (i : ℕ) (x : X) → slice_get xs i ≡ Some x → take (suc i) xs ≡ take i xs ++ x ∷ []
take_next [] i x h = absurd (none_some x h)
take_next {X} (y ∷ xs) zero x h = ap (λ (z : X). z ∷ []) (same_some y x h)
take_next {X} (y ∷ xs) (suc i) x h = ap (λ (l : List X). y ∷ l) (take_next xs i x h)

-- an element that is put where it is changes nothing
pub set_itself : {X : Type 0} (xs : List X) (i : ℕ) (x : X) → slice_get xs i ≡ Some x → set xs i x ≡ xs
set_itself [] i x h = absurd (none_some x h)
set_itself {X} (y ∷ xs) zero x h = ap (λ (z : X). z ∷ xs) (sym (same_some y x h))
set_itself {X} (y ∷ xs) (suc i) x h = ap (λ (l : List X). y ∷ l) (set_itself xs i x h)

-- all pairs are spread
pub spread_all : (old new : List Meaning) (pairs same : List (ℕ × ℕ)) (at : ℕ) → pairs ≡ same → length same ≤ at
    → SpreadsEach old new (take at pairs) → SpreadsEach old new same
spread_all old new pairs same at e past h =
    subst (SpreadsEach old new) (take_all at same past) (subst (λ (l : List (ℕ × ℕ)). SpreadsEach old new (take at l)) e h)

module _ {X : Type 0} (f : X → X) where
  -- of the first ones of a list f is taken
  pub rest_at : (xs : List X) (i : ℕ) → slice_get (map f (take i xs) ++ drop i xs) i ≡ slice_get xs i
  rest_at [] zero = refl
  rest_at [] (suc i) = refl
  rest_at (x ∷ xs) zero = refl
  rest_at (x ∷ xs) (suc i) = rest_at xs i

  pub one_more : (xs : List X) (i : ℕ) (x : X) → slice_get xs i ≡ Some x
      → set (map f (take i xs) ++ drop i xs) i (f x) ≡ map f (take (suc i) xs) ++ drop (suc i) xs
  one_more [] i x h = absurd (none_some x h)
  one_more (y ∷ xs) zero x h = ap (λ (z : X). f z ∷ xs) (sym (same_some y x h))
  one_more (y ∷ xs) (suc i) x h = ap (λ (l : List X). f y ∷ l) (one_more xs i x h)

  pub all_of : (xs : List X) (i : ℕ) → length xs ≤ i → map f (take i xs) ++ drop i xs ≡ map f xs
  all_of [] zero h = refl
  all_of [] (suc i) h = refl
  all_of (x ∷ xs) zero h = absurd (omega (arith, h))
  all_of (x ∷ xs) (suc i) h = ap (λ (l : List X). f x ∷ l) (all_of xs i (omega (arith, h)))
