-- What is seen of threads and of processes by their frames, and where frames are missing (docs/DATABASE.md#send).
use Rattle.std.specs.Prelude.{◌≡◌, ◌≢◌, ◌==◌, ◌&&◌, ℕ, ◌+◌, ◌<◌, ◌≤◌, Bool, true, false, ◌⊎◌, List, [], ◌∷◌, ◌++◌, Option, Some, None, length, slice_get, slice_set}
use Rattle.std.specs.List.Sorted.{IsNonDecreasing, IsPartitionPoint}
use Rattle.std.specs.Option.{option_or}
use Rattle.capture_frame.specs.declared.direction.Direction.{Direction}
use Rattle.capture_frame.specs.declared.direction.Direction.TheVariants.{Read, Write}
use Rattle.listing_tables.specs.declared.calls.Call.{Call}
use Rattle.listing_tables.specs.declared.calls.Closer.{Closer}
use Rattle.indexmap.specs.IndexMap.{get}
use Rattle.listing_tables.specs.declared.messages.Message.{Message}
use Rattle.listing_tables.specs.declared.seen.Seen.{Seen}
use Rattle.listing_tables.specs.declared.seen.Watched.{Watched}
use Rattle.listing_tables.specs.declared.spans.Owner.{Owner}

-- whether two nodes, each with a number of gaps, are the same
abbrev pub same_reference : ℕ × ℕ → ℕ × ℕ → Bool
same_reference a b = (a.0 == b.0) && (a.1 == b.1)

-- ---- gaps before a place

-- so many gaps come before a place, if their places rise
abbrev pub AreGapsBefore : Seen → ℕ → ℕ → Type 0
AreGapsBefore seen place count =
    IsNonDecreasing seen.gaps.items
    → IsPartitionPoint (λ gap. gap ≤ place) (λ gap. place < gap) seen.gaps.items count

-- No frame is missing in a call whose opener comes after so many gaps: as many come before its closer, or there are no
-- more if it is open.
pub record IsWholeCall (seen : Seen) (call : Call) (gaps : ℕ) : Type 0 where
  pub closed : (closer : Closer) → call.closer ≡ Some closer → AreGapsBefore seen closer.place gaps
  pub unclosed : call.closer ≡ None → gaps ≡ length seen.gaps.items

-- ---- one more frame

-- a frame with this sequence does not come right after the last one
abbrev pub ComesAfterGap : Option ℕ → ℕ → Type 0
ComesAfterGap last sequence = (at : ℕ) × (last ≡ Some at) × (sequence ≢ at + 1)

-- the gap before a frame at this place is noted, if there is one
pub record NotesGap (old new : Seen) (sequence place : ℕ) : Type 0 where
  pub gap : ComesAfterGap old.sequence sequence → new.gaps.items ≡ old.gaps.items ++ place ∷ []
  pub none : (ComesAfterGap old.sequence sequence → ⊥) → new.gaps.items ≡ old.gaps.items
  pub last : new.sequence ≡ Some sequence

-- a process that is new is not seen to be older than the capture
pub record NotesProcess (old new : List Bool) (upid : ℕ) : Type 0 where
  pub first : upid ≡ length old → new ≡ old ++ false ∷ []
  pub later : upid ≢ length old → new ≡ old

-- a thread has its first frame, after so many gaps
pub record BeginsThread (old new : List Watched) (utid gaps : ℕ) : Type 0 where
  pub first : length old ≤ utid
  pub are : new ≡ old ++ record { last = gaps; earlier = None; takes_calls = None } ∷ []

-- a thread has one frame more, after so many gaps
pub record GoesOn (old new : List Watched) (utid gaps : ℕ) : Type 0 where
  pub thread : Watched
  pub there : slice_get old utid ≡ Some thread
  pub are : new ≡ slice_set old utid (record thread { last = gaps; earlier = Some thread.last })

-- a process is older than the capture if the first frame of one of its threads is a read: the thread waited in the
-- driver before the capture began
abbrev pub NotesAge : Direction → List Bool → List Bool → ℕ → Type 0
NotesAge Read old new upid = new ≡ slice_set old upid true
NotesAge Write old new upid = new ≡ old

-- a frame of this sequence, at this place, of this direction and of this thread is taken
pub record TakesFrame (old : Seen) (sequence place : ℕ) (direction : Direction) (owner : Owner) (new : Seen) : Type 0 where
  pub gaps : NotesGap old new sequence place
  pub known : List Bool
  pub process : NotesProcess old.old.all.items known owner.upid.index
  pub thread : (BeginsThread old.threads.all.items new.threads.all.items owner.utid.index (length new.gaps.items)
      × NotesAge direction known new.old.all.items owner.upid.index)
      ⊎ (GoesOn old.threads.all.items new.threads.all.items owner.utid.index (length new.gaps.items)
      × (new.old.all.items ≡ known))
  pub referred : new.referred ≡ old.referred

-- whether a delivery is a oneway transaction, or opens a call that comes within no other one
abbrev pub is_outermost : Message → Option Call → Bool
is_outermost delivery None = delivery.oneway
is_outermost delivery (Some call) = (call.place == delivery.place) && (call.depth == 1)

-- A thread is told at a place of references to a node. That counts for the gaps before the thread's last frame, if the
-- frame before that comes after them too, and if nothing counts for them yet: the first place is kept.
pub record NotesReferred (old : Seen) (utid node place : ℕ) (new : Seen) : Type 0 where
  pub thread : Watched
  pub there : slice_get old.threads.all.items utid ≡ Some thread
  pub first : thread.earlier ≡ Some thread.last → get same_reference old.referred (node, thread.last) ≡ None
      → get same_reference new.referred (node, thread.last) ≡ Some place
  pub kept : (at : ℕ) → get same_reference old.referred (node, thread.last) ≡ Some at
      → get same_reference new.referred (node, thread.last) ≡ Some at
  pub others : (other : ℕ × ℕ) → same_reference (node, thread.last) other ≡ false
      → get same_reference new.referred other ≡ get same_reference old.referred other

-- a thread has said that it takes calls, at this place unless it did so before
pub record SaysTakesCalls (old new : List Watched) (utid place : ℕ) : Type 0 where
  pub thread : Watched
  pub there : slice_get old utid ≡ Some thread
  pub are : new ≡ slice_set old utid (record thread { takes_calls = option_or thread.takes_calls (Some place) })
