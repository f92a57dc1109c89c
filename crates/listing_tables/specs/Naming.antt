-- Which generation of a handle a record names, and what it does to it (docs/DATABASE.md#generation).
use Rattle.std.specs.Prelude.{◌≡◌, ◌≢◌, ◌⊎◌, ℕ, ◌+◌, ◌==◌, ◌&&◌, Bool, true, false, [], ◌∷◌, ◌++◌, Option, Some, None, length, slice_get, slice_set}
use Rattle.event_core.specs.declared.handle.HandleChange.TheVariants.{Raise, Lower}
use Rattle.event_core.specs.declared.strength.Strength.{Strength}
use Rattle.indexmap.specs.IndexMap.{get}
use Rattle.listing_tables.specs.declared.generations.Effect.{Effect}
use Rattle.listing_tables.specs.declared.generations.Effect.TheVariants.{Names, Takes, Holds}
use Rattle.listing_tables.specs.declared.generations.Generation.{Generation}
use Rattle.listing_tables.specs.declared.generations.Generations.{Generations}
use Rattle.listing_tables.specs.declared.generations.Reference.{Reference}
use Rattle.listing_tables.specs.declared.spans.Upid.{Upid}
use Rattle.listing_tables.specs.Generations.{CountsEffect, EndsByEffect, EndsIfEmpty, GenerationSum, GivenByEffect, HeldByEffect, HoldsOneFewer, IsGenerationOf, IsNew, IsSame, KeepsGiven, KeepsTaken}

-- whether two handles are the same one of the same opening
abbrev pub same_handle : Upid × ℕ → Upid × ℕ → Bool
same_handle a b = (a.0.index == b.0.index) && (a.1 == b.1)

-- the index of the latest generation of a handle
abbrev pub latest_of : Generations → Upid → ℕ → Option ℕ
latest_of generations upid handle = get same_handle generations.latest (upid, handle)

-- no handle has a generation
abbrev pub HasNone : Generations → Type 0
HasNone generations = (upid : Upid) (handle : ℕ) → latest_of generations upid handle ≡ None

-- the strength of the reference that a delivery holds, if the effect is that of an object in a delivery
abbrev pub held_by : Effect → Option Strength
held_by Names = None
held_by (Takes strength change) = None
held_by (Holds strength) = Some strength

-- whether an effect gives the process a reference
abbrev pub gives : Effect → Bool
gives Names = false
gives (Takes strength Raise) = true
gives (Takes strength Lower) = false
gives (Holds strength) = true

-- a generation of this number begins at this place: it comes last, and is the latest one of its handle
pub record Begins (old : Generations) (upid : Upid) (handle n place : ℕ) (new : Generations) (index : ℕ) : Type 0 where
  pub generation : Generation
  pub named : IsGenerationOf upid handle n place generation
  pub counts : GenerationSum generation []
  pub unknown : IsNew generation
  pub last : index ≡ length old.list.all.items
  pub list : new.list.all.items ≡ old.list.all.items ++ generation ∷ []
  pub latest : latest_of new upid handle ≡ Some index
  pub others : (u : Upid) (h : ℕ) → same_handle (upid, handle) (u, h) ≡ false → latest_of new u h ≡ latest_of old u h

-- a record names the latest generation of a handle, which has not ended, or to which it gives no reference
pub record GoesOnWith (old : Generations) (upid : Upid) (handle : ℕ) (effect : Effect) (new : Generations) (index : ℕ) : Type 0 where
  pub latest : latest_of old upid handle ≡ Some index
  pub generation : Generation
  pub there : slice_get old.list.all.items index ≡ Some generation
  pub lives : (generation.end ≡ None) ⊎ (gives effect ≡ false)
  pub same : new ≡ old

-- a record gives a reference after the latest generation of a handle has ended: the next one begins
pub record BeginsNext (old : Generations) (upid : Upid) (handle : ℕ) (effect : Effect) (place : ℕ) (new : Generations) (index : ℕ) : Type 0 where
  pub before : ℕ
  pub latest : latest_of old upid handle ≡ Some before
  pub generation : Generation
  pub there : slice_get old.list.all.items before ≡ Some generation
  pub ended : generation.end ≢ None
  pub given : gives effect ≡ true
  pub begins : Begins old upid handle (generation.number + 1) place new index

-- the generation that a record names: of a handle without one the first one begins
abbrev pub FindsNamed : Generations → Upid → ℕ → Effect → ℕ → Generations → ℕ → Type 0
FindsNamed old upid handle effect place new index =
    GoesOnWith old upid handle effect new index ⊎ BeginsNext old upid handle effect place new index
    ⊎ ((latest_of old upid handle ≡ None) × Begins old upid handle 1 place new index)

-- the record at this place does this to the generation at an index, which had so many strong references and has so many
pub record Applies (old new : Generations) (index : ℕ) (effect : Effect) (place had has : ℕ) : Type 0 where
  pub before : Generation
  pub there : slice_get old.list.all.items index ≡ Some before
  pub after : Generation
  pub are : new.list.all.items ≡ slice_set old.list.all.items index after
  pub latest : new.latest ≡ old.latest
  pub same : IsSame before after
  pub counts : CountsEffect before effect after
  pub ends : EndsByEffect before effect place after
  pub held : HeldByEffect before effect after
  pub given : GivenByEffect before effect place after
  pub first : had ≡ before.strong.left
  pub second : has ≡ after.strong.left

-- a record names a generation of a handle, and does this to it
pub record NamesOne (old : Generations) (upid : Upid) (handle : ℕ) (effect : Effect) (place : ℕ) (new : Generations) (found : ℕ × ℕ × ℕ) : Type 0 where
  pub between : Generations
  pub finds : FindsNamed old upid handle effect place between found.0
  pub applies : Applies between new found.0 effect place found.1 found.2

-- a reference that a delivery held is taken back from its generation
pub record LetsGo (old new : Generations) (reference : Reference) (place : ℕ) : Type 0 where
  pub before : Generation
  pub there : slice_get old.list.all.items reference.generation ≡ Some before
  pub after : Generation
  pub are : new.list.all.items ≡ slice_set old.list.all.items reference.generation after
  pub latest : new.latest ≡ old.latest
  pub same : IsSame before after
  pub ends : EndsIfEmpty before place after
  pub taken : KeepsTaken before after
  pub held : HoldsOneFewer reference.strength before after
  pub given : KeepsGiven before after
