-- The counts of the raw table generation, by the definitions of handle_ledger (docs/REPORT.md).
use Rattle.std.specs.Prelude.{◌≡◌, ◌≢◌, ℕ, ◌+◌, ◌==◌, if◌then◌else◌, pos, ◌-ℤ◌, Option, Some, None, IsSome}
use Rattle.std.specs.Prelude.{List, [], ◌∷◌, ◌++◌, map, count_by}
use Rattle.std.specs.Option.{option_or, option_to_list}
use Rattle.event_core.specs.declared.handle.HandleChange.{HandleChange}
use Rattle.event_core.specs.declared.strength.Strength.{Strength}
use Rattle.event_core.specs.declared.strength.Strength.TheVariants.{Strong, Weak}
use Rattle.handle_ledger.specs.Handles.{handle_change}
use Rattle.summary_law.specs.Count.{Change, IsCount, is_lower, is_raise}
use Rattle.summary_law.specs.declared.count.Count.{Count}
use Rattle.listing_tables.specs.Columns.{column_of, numbered_rows}
use Rattle.listing_tables.specs.declared.generations.Effect.{Effect}
use Rattle.listing_tables.specs.declared.generations.Effect.TheVariants.{Names, Takes, Holds}
use Rattle.listing_tables.specs.declared.generations.Generation.{Generation}
use Rattle.listing_tables.specs.declared.generations.Taken.{Taken}
use Rattle.listing_tables.specs.declared.rows.Column.{Column}
use Rattle.listing_tables.specs.declared.rows.Column.TheVariants.{Number}
use Rattle.listing_tables.specs.declared.spans.Upid.{Upid}

-- which count an effect changes, and how
abbrev pub taken_by : Effect → Option (Strength × HandleChange)
taken_by Names = None
taken_by (Takes strength change) = Some (strength, change)
taken_by (Holds strength) = None

-- the change of a count that an effect is, if it is one
abbrev pub counted_by : Effect → List (Strength × HandleChange)
counted_by effect = option_to_list (taken_by effect)

-- What these changes come to: how many raise the count, how many lower it, and what is left, which is the sum of the
-- count less its low. So of changes that never go below 0, the low of which is 0, it is the sum.
pub record TakenSum (taken : Taken) (changes : List Change) : Type 0 where
  pub raised : taken.raised ≡ count_by is_raise changes
  pub lowered : taken.lowered ≡ count_by is_lower changes
  pub count : Count
  pub counts : IsCount count changes
  pub left : pos taken.left ≡ count.sum -ℤ count.low

-- whatever changes the old counts are of, the new ones are of these with this one after them
abbrev pub TakesOneMore : Taken → Change → Taken → Type 0
TakesOneMore old change new =
    (changes : List Change) → TakenSum old changes → TakenSum new (changes ++ change ∷ [])

-- the generation has the counts of these changes, which all are of it
pub record GenerationSum (generation : Generation) (changes : List (Strength × HandleChange)) : Type 0 where
  pub strong : TakenSum generation.strong (map (handle_change Strong) changes)
  pub weak : TakenSum generation.weak (map (handle_change Weak) changes)

-- whatever changes the generation has the counts of, it then has those of these with this effect after them
abbrev pub CountsEffect : Generation → Effect → Generation → Type 0
CountsEffect old effect new =
    (changes : List (Strength × HandleChange)) → GenerationSum old changes
    → GenerationSum new (changes ++ counted_by effect)

-- nothing is left of a generation, neither what its process took nor what deliveries hold, and its handle is not 0
pub record IsEmpty (generation : Generation) : Type 0 where
  pub strong : generation.strong.left ≡ 0
  pub weak : generation.weak.left ≡ 0
  pub held_strong : generation.held_strong ≡ 0
  pub held_weak : generation.held_weak ≡ 0
  pub handle : generation.handle ≢ 0

-- A record at this place that takes or lets go of a reference ends the generation exactly if it is empty then. One that
-- has ended keeps its end.
pub record EndsIfEmpty (old : Generation) (place : ℕ) (new : Generation) : Type 0 where
  pub ends : old.end ≡ None → IsEmpty new → new.end ≡ Some place
  pub ends_empty : old.end ≡ None → IsSome new.end → IsEmpty new
  pub keeps : IsSome old.end → new.end ≡ old.end

-- the generation of this handle of this opening that has this number and begins at this place
pub record IsGenerationOf (u : Upid) (h n place : ℕ) (generation : Generation) : Type 0 where
  pub upid : generation.upid ≡ u
  pub handle : generation.handle ≡ h
  pub number : generation.number ≡ n
  pub begin : generation.begin ≡ place

-- it is the same generation
abbrev pub IsSame : Generation → Generation → Type 0
IsSame old new = IsGenerationOf old.upid old.handle old.number old.begin new

-- nothing is known yet of a generation but which one it is
pub record IsNew (generation : Generation) : Type 0 where
  pub end : generation.end ≡ None
  pub given_by : generation.given_by ≡ None
  pub held_since : generation.held_since ≡ None
  pub held_strong : generation.held_strong ≡ 0
  pub held_weak : generation.held_weak ≡ 0

-- deliveries hold what they held
abbrev pub KeepsHeld : Generation → Generation → Type 0
KeepsHeld old new = (new.held_strong ≡ old.held_strong) × (new.held_weak ≡ old.held_weak)

-- deliveries hold one more reference of this strength
abbrev pub HoldsOneMore : Strength → Generation → Generation → Type 0
HoldsOneMore Strong old new =
    (new.held_strong ≡ old.held_strong + 1) × (new.held_weak ≡ old.held_weak)
HoldsOneMore Weak old new =
    (new.held_strong ≡ old.held_strong) × (new.held_weak ≡ old.held_weak + 1)

-- deliveries hold one reference of this strength fewer
abbrev pub HoldsOneFewer : Strength → Generation → Generation → Type 0
HoldsOneFewer Strong old new = (new.held_strong + 1 ≡ old.held_strong) × (new.held_weak ≡ old.held_weak)
HoldsOneFewer Weak old new = (new.held_strong ≡ old.held_strong) × (new.held_weak + 1 ≡ old.held_weak)

-- what an effect of the record at this place does to the end: to name a generation or to hold it ends none
abbrev pub EndsByEffect : Generation → Effect → ℕ → Generation → Type 0
EndsByEffect old Names place new = new.end ≡ old.end
EndsByEffect old (Takes strength change) place new = EndsIfEmpty old place new
EndsByEffect old (Holds strength) place new = new.end ≡ old.end

-- what an effect does to what deliveries hold
abbrev pub HeldByEffect : Generation → Effect → Generation → Type 0
HeldByEffect old Names new = KeepsHeld old new
HeldByEffect old (Takes strength change) new = KeepsHeld old new
HeldByEffect old (Holds strength) new = HoldsOneMore strength old new

-- what the process took does not change
abbrev pub KeepsTaken : Generation → Generation → Type 0
KeepsTaken old new = (new.strong ≡ old.strong) × (new.weak ≡ old.weak)

-- since which place a process holds a handle, after a record at this place that leaves it so many strong references
abbrev pub held_since_after : ℕ → Option ℕ → ℕ → Option ℕ
held_since_after left since place = if left == 0 then None else option_or since (Some place)

-- which delivery gave it, and since when it is held, stay
abbrev pub KeepsGiven : Generation → Generation → Type 0
KeepsGiven old new = (new.given_by ≡ old.given_by) × (new.held_since ≡ old.held_since)

-- What an effect of the record at this place does to these two: the first delivery gives it, and it is held since the
-- first record after which the process has a strong reference, until it has none.
abbrev pub GivenByEffect : Generation → Effect → ℕ → Generation → Type 0
GivenByEffect old Names place new = KeepsGiven old new
GivenByEffect old (Takes strength change) place new =
    (new.given_by ≡ old.given_by) × (new.held_since ≡ held_since_after new.strong.left old.held_since place)
GivenByEffect old (Holds strength) place new =
    (new.given_by ≡ option_or old.given_by (Some place)) × (new.held_since ≡ old.held_since)

-- the row of a generation that has this number among all, column by column
abbrev pub generation_columns : ℕ → Generation → List Column
generation_columns number generation =
    Number number ∷ Number (generation.upid.index + 1) ∷ Number generation.handle ∷ Number generation.number
    ∷ Number generation.begin ∷ column_of generation.end ∷ column_of generation.given_by
    ∷ column_of generation.held_since ∷ Number generation.strong.raised ∷ Number generation.strong.lowered
    ∷ Number generation.weak.raised ∷ Number generation.weak.lowered ∷ Number generation.strong.left
    ∷ Number generation.weak.left ∷ Number generation.held_strong ∷ Number generation.held_weak ∷ []

-- the rows of all generations
abbrev pub generation_rows : List Generation → List (List Column)
generation_rows generations = numbered_rows generation_columns generations
