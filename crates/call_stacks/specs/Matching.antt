-- Which closer of a thread closes which opener, by counting (docs/REPORT.md).
use Rattle.std.specs.Prelude.{◌≡◌, ◌↔◌, ℕ, ◌+◌, ◌<◌, ◌≤◌, Bool, true, false, Some}
use Rattle.std.specs.Prelude.{List, ◌++◌, length, reverse, count_by, slice_get, slice_range}
use Rattle.summary_law.specs.Ranked.{ListsInOrder}

-- what a record does to the calls of its thread: it opens one, closes one, or does neither
pub data Side : Type 0 where
  opener : Side
  closer : Side
  neither : Side

-- whether a record opens a call
abbrev pub is_opener : Side → Bool
is_opener opener = true
is_opener closer = false
is_opener neither = false

-- whether a record closes a call
abbrev pub is_closer : Side → Bool
is_closer opener = false
is_closer closer = true
is_closer neither = false

-- how many of the records open a call
abbrev pub opened : List Side → ℕ
opened sides = count_by is_opener sides

-- how many of the records close a call
abbrev pub closed : List Side → ℕ
closed sides = count_by is_closer sides

-- The opener at i and the closer at j match: from i to j, both included, as many records close as open, and in every
-- shorter stretch from i on fewer close than open.
pub record Match (sides : List Side) (i j : ℕ) : Type 0 where
  pub opens : slice_get sides i ≡ Some opener
  pub closes : slice_get sides j ≡ Some closer
  pub after : i < j
  pub equal : opened (slice_range sides i (j + 1)) ≡ closed (slice_range sides i (j + 1))
  pub more : (k : ℕ) → i < k → k ≤ j → closed (slice_range sides i k) < opened (slice_range sides i k)

-- an opener that no closer matches
abbrev pub IsUnmatched : List Side → ℕ → Type 0
IsUnmatched sides i = (slice_get sides i ≡ Some opener) × ((j : ℕ) → ¬ (Match sides i j))

-- a closer that matches no opener
abbrev pub IsStray : List Side → ℕ → Type 0
IsStray sides j = (slice_get sides j ≡ Some closer) × ((i : ℕ) → ¬ (Match sides i j))

-- A match in two lists joined: a match of the first list; a match of the second; or the k-th unmatched opener of the
-- first, counted from its end, with the k-th unmatched closer of the second.
pub data IsJoinedMatch (first second : List Side) (unmatched strays : List ℕ) (i j : ℕ) : Type 0 where
  in_first : Match first i j → IsJoinedMatch first second unmatched strays i j
  in_second : (m n : ℕ) → Match second m n → i ≡ length first + m → j ≡ length first + n
      → IsJoinedMatch first second unmatched strays i j
  across : (k n : ℕ) → slice_get (reverse unmatched) k ≡ Some i → slice_get strays k ≡ Some n → j ≡ length first + n
      → IsJoinedMatch first second unmatched strays i j

-- the matches in two lists joined are these and no others
pub record JoinedMatches (first second : List Side) : Type 0 where
  pub unmatched : List ℕ
  pub strays : List ℕ
  pub unmatched_are : ListsInOrder (λ i. i) (IsUnmatched first) unmatched
  pub strays_are : ListsInOrder (λ j. j) (IsStray second) strays
  pub exact : (i j : ℕ) → Match (first ++ second) i j ↔ IsJoinedMatch first second unmatched strays i j
