-- The references that a process holds by handle: the counts of each handle, and a row for each (docs/REPORT.md).
use Rattle.std.specs.Prelude.{◌≡◌, ℕ, List, map}
use Rattle.std.specs.Map.{keys_of}
use Rattle.std.specs.Ordering.{nat_cmp}
use Rattle.event_core.specs.Handles.{HandleItem}
use Rattle.event_core.specs.declared.handle.HandleChange.{HandleChange}
use Rattle.event_core.specs.declared.handle.HandleChange.TheVariants.{Raise, Lower}
use Rattle.event_core.specs.declared.strength.Strength.{Strength}
use Rattle.event_core.specs.declared.strength.Strength.TheVariants.{Strong, Weak}
use Rattle.handle_ledger.specs.declared.handle_counts.HandleCounts.{HandleCounts}
use Rattle.handle_ledger.specs.declared.handles.HandleLedger.{HandleLedger}
use Rattle.handle_ledger.specs.Rows.{change_at}
use Rattle.handle_ledger.specs.Strengths.{change_of}
use Rattle.summary_law.specs.ByKey.{SumsByKey}
use Rattle.summary_law.specs.Count.{Change, count_of, raises, lowers, IsCountOf}
use Rattle.summary_law.specs.Sorted.{sorted}
use Rattle.summary_law.specs.declared.count.Count.{Count}

-- what a change does to the count of its own strength
abbrev pub handle_count_change : HandleChange → Change
handle_count_change Raise = raises
handle_count_change Lower = lowers

-- what a record does to the count of this strength of its handle: nothing if it changes the other strength
abbrev pub handle_change : Strength → Strength × HandleChange → Change
handle_change strength effect = change_of strength effect.0 (handle_count_change effect.1)

-- the count of this strength of this handle, over all items
abbrev pub handle_count : List HandleItem → ℕ → Strength → Count
handle_count items handle strength = count_of (map (change_at nat_cmp (handle_change strength) handle) items)

-- the strong count and the weak count of a handle
abbrev pub handle_counts : List HandleItem → ℕ → HandleCounts
handle_counts items handle =
    record { strong = handle_count items handle Strong; weak = handle_count items handle Weak }

-- each handle that an item names, with its counts, handles rising
abbrev pub handle_rows : List HandleItem → List (ℕ × HandleCounts)
handle_rows items =
    map (λ handle. (handle, handle_counts items handle)) (sorted nat_cmp (keys_of items))

-- the counts are those of these changes of one handle
pub record HandleCountsSum (counts : HandleCounts) (effects : List (Strength × HandleChange)) : Type 0 where
  pub strong : IsCountOf (handle_change Strong) counts.strong effects
  pub weak : IsCountOf (handle_change Weak) counts.weak effects

-- the ledger has the counts of each handle that an item names, and of no other
abbrev pub HandleLedgerSums : HandleLedger → List HandleItem → Type 0
HandleLedgerSums ledger items = SumsByKey nat_cmp HandleCountsSum ledger.handles items

-- for whatever items the ledger sums, these are the rows
abbrev pub GivesHandleRows : HandleLedger → List (ℕ × HandleCounts) → Type 0
GivesHandleRows ledger rows =
    (items : List HandleItem) → HandleLedgerSums ledger items → rows ≡ handle_rows items
