-- The sum of a list of changes by one, and the least sum of its prefixes.
use Rattle.std.specs.Prelude.{◌≡◌, ℕ, ◌≤◌, ℤ, pos, ◌+ℤ◌, ◌-ℤ◌, ◌≤ℤ◌, Bool, true, false, List, [], ◌∷◌, ◌++◌}
use Rattle.std.specs.Prelude.{length, take, map, count_by, Option}
use Rattle.std.specs.Int.{int_min}
use Rattle.std.specs.Option.{option_map_or}
use Rattle.summary_law.specs.declared.count.Count.{Count}

-- what an item does to a count: it raises it by one, lowers it by one, or leaves it as it is
pub data Change : Type 0 where
  raises : Change
  lowers : Change
  keeps : Change

-- whether a change raises
abbrev pub is_raise : Change → Bool
is_raise raises = true
is_raise lowers = false
is_raise keeps = false

-- whether a change lowers
abbrev pub is_lower : Change → Bool
is_lower raises = false
is_lower lowers = true
is_lower keeps = false

-- how many changes raise, less how many lower
abbrev pub total : List Change → ℤ
total changes = pos (count_by is_raise changes) -ℤ pos (count_by is_lower changes)

-- the count of the changes: their sum, and their low, the least sum of any prefix, the empty one included
pub record IsCount (count : Count) (changes : List Change) : Type 0 where
  pub sum : count.sum ≡ total changes
  pub reached : (n : ℕ) × (n ≤ length changes) × (count.low ≡ total (take n changes))
  pub least : (n : ℕ) → n ≤ length changes → count.low ≤ℤ total (take n changes)

-- the least sum of a prefix of both lists joined, of those that have the whole first list
abbrev pub least_total : List Change → List Change → ℤ
least_total before [] = total before
least_total before (change ∷ later) = int_min (total before) (least_total (before ++ change ∷ []) later)

-- the sum and the low of these changes
abbrev pub count_of : List Change → Count
count_of changes = record { sum = total changes; low = least_total [] changes }

-- whatever changes the old count is of, the new one is of those with this one after them
abbrev pub CountsOneMore : Change → Count → Count → Type 0
CountsOneMore change old new = (changes : List Change) → IsCount old changes → IsCount new (changes ++ change ∷ [])

-- whatever changes the two counts are of, the whole one is of the earlier changes followed by the later ones
abbrev pub CountsBoth : Count → Count → Count → Type 0
CountsBoth earlier later whole =
    (changes more : List Change) → IsCount earlier changes → IsCount later more → IsCount whole (changes ++ more)

-- the count is that of what these items do
abbrev pub IsCountOf : {I : Type 0} → (I → Change) → Count → List I → Type 0
IsCountOf change count items = IsCount count (map change items)

-- what a thing does to a count of items: what the item that is read from it does, or nothing if there is none
abbrev pub change_read : {E I : Type 0} → (E → Option I) → (I → Change) → E → Change
change_read read change e = option_map_or change (read e) keeps

-- the sum and the low are no further from 0 than `most`, and the low is not above 0
pub record IsWithin (count : Count) (most : ℕ) : Type 0 where
  pub sum_low : pos 0 ≤ℤ (count.sum +ℤ pos most)
  pub sum_high : count.sum ≤ℤ pos most
  pub low_low : pos 0 ≤ℤ (count.low +ℤ pos most)
  pub low_high : count.low ≤ℤ pos 0
