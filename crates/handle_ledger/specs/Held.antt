-- The references that a process holds by handle, and those that its deliveries hold for it (docs/REPORT.md).
use Rattle.std.specs.Prelude.{◌≡◌, ℕ, Bool, true, false, List, ◌++◌, map}
use Rattle.std.specs.BTreeSet.{BTreeSet, contains}
use Rattle.std.specs.List.{list_any}
use Rattle.std.specs.Map.{keys_of}
use Rattle.std.specs.Ordering.{eq_by_cmp, nat_cmp, bool_cmp, ordering_then}
use Rattle.std.specs.declared.cmp.Ordering.{Ordering}
use Rattle.event_core.specs.Handles.{HandleItem}
use Rattle.handle_ledger.specs.declared.handle_counts.HandleCounts.{HandleCounts}
use Rattle.handle_ledger.specs.declared.handles.HandleLedger.{HandleLedger}
use Rattle.handle_ledger.specs.declared.held_row.HeldRow.{HeldRow}
use Rattle.handle_ledger.specs.Handles.{handle_counts, HandleLedgerSums}
use Rattle.summary_law.specs.Sorted.{sorted}
use Rattle.summary_law.specs.Tally.{count_of_key, TallySums}
use Rattle.summary_law.specs.declared.tally.Tally.{Tally}

-- a held reference: its handle, and whether it is a weak one
abbrev pub Held : Type 0
Held = ℕ × Bool

-- held references are ordered by handle; of one handle, the strong ones come before the weak ones
abbrev pub held_cmp : Held → Held → Ordering
held_cmp one other = ordering_then (nat_cmp one.0 other.0) (bool_cmp one.1 other.1)

-- how many strong references to the handle are held, or how many weak ones; their weights do not matter
abbrev pub held_count : List (Held × ℕ) → ℕ → Bool → ℕ
held_count held handle weak = count_of_key held_cmp (handle, weak) held

-- the row of a handle: its counts, and how many strong and weak references to it are held
abbrev pub held_row : List HandleItem → List (Held × ℕ) → ℕ → HeldRow
held_row items held handle = record {
  handle = handle;
  taken = handle_counts items handle;
  held_strong = held_count held handle false;
  held_weak = held_count held handle true;
}

-- the handles that an item names, and those to which a reference is held
abbrev pub handles_of : List HandleItem → List (Held × ℕ) → List ℕ
handles_of items held = keys_of items ++ map (λ reference. reference.0.0) held

-- a row for each handle that an item names or to which a reference is held, handles rising
abbrev pub held_rows : List HandleItem → List (Held × ℕ) → List HeldRow
held_rows items held = map (held_row items held) (sorted nat_cmp (handles_of items held))

-- `IsHere` holds of whatever items the ledger sums and whatever held references the tally sums
abbrev pub ForWhateverIsSummed : HandleLedger → Tally Held → (List HandleItem → List (Held × ℕ) → Type 0) → Type 0
ForWhateverIsSummed ledger tally IsHere =
    (items : List HandleItem) (held : List (Held × ℕ)) → HandleLedgerSums ledger items
    → TallySums held_cmp tally held → IsHere items held

-- for whatever items and held references are summed, these are the rows
abbrev pub GivesHeldRows : HandleLedger → Tally Held → List HeldRow → Type 0
GivesHeldRows ledger tally rows = ForWhateverIsSummed ledger tally (λ items held. rows ≡ held_rows items held)

-- for whatever items the ledger sums, these are the counts of the handle
abbrev pub GivesHandleCounts : HandleLedger → ℕ → HandleCounts → Type 0
GivesHandleCounts ledger handle counts =
    (items : List HandleItem) → HandleLedgerSums ledger items → counts ≡ handle_counts items handle

-- for whatever items and held references are summed, this is the row of the handle with what is held
abbrev pub GivesHeldRow : HandleLedger → Tally Held → ℕ → HeldRow → Type 0
GivesHeldRow ledger tally handle row = ForWhateverIsSummed ledger tally (λ items held. row ≡ held_row items held handle)

-- the set has the handles that an item names or to which a reference is held, and no others
abbrev pub HasHandles : HandleLedger → Tally Held → BTreeSet ℕ → Type 0
HasHandles ledger tally handles =
    ForWhateverIsSummed ledger tally
    (λ items held. (handle : ℕ) →
    contains nat_cmp handles handle ≡ list_any (eq_by_cmp nat_cmp handle) (handles_of items held))
