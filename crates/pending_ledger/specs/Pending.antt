-- What was opened and never closed, and what was closed while it was not open, in a list of opens and closes with keys
-- (docs/REPORT.md).
use Rattle.std.specs.Prelude.{◌&&◌, not, ℕ, Bool, true, false, List, map, Option, Some, None, filter_map, if◌then◌else◌}
use Rattle.std.specs.List.{last_or, list_any}
use Rattle.event_core.specs.declared.pending.KeyEvent.{KeyEvent}
use Rattle.event_core.specs.declared.pending.PendingChange.{PendingChange}
use Rattle.event_core.specs.declared.pending.PendingChange.TheVariants.{Open, Close}
use Rattle.summary_law.specs.Readings.{read_all, chosen}

-- whether a change is a close
abbrev pub is_close : PendingChange → Bool
is_close Open = false
is_close Close = true

-- whether there is a change, and it is an open
abbrev pub was_open : Option PendingChange → Bool
was_open (Some Open) = true
was_open (Some Close) = false
was_open None = false

-- whether an item closes this key: an item is a key, and an open or a close of it
abbrev pub closes : {K : Type 0} → (K → K → Bool) → K → K × KeyEvent → Bool
closes eq key item = eq key item.0 && is_close item.1.change

-- what the items of the key do, in their order
abbrev pub changes_of : {K : Type 0} → (K → K → Bool) → K → List (K × KeyEvent) → List PendingChange
changes_of eq key items = filter_map (λ item. if eq key item.0 then Some item.1.change else None) items

-- whether the item is an unclosed open: no later close has its key
abbrev pub is_unclosed_item : {K : Type 0} → (K → K → Bool) → List (K × KeyEvent) → K × KeyEvent → List (K × KeyEvent) → Bool
is_unclosed_item eq before item later = not (is_close item.1.change) && not (list_any (closes eq item.0) later)

-- whether the item is a stray: it is a close, and the latest earlier item of its key, if there is one, is not an open
abbrev pub is_stray_item : {K : Type 0} → (K → K → Bool) → List (K × KeyEvent) → K × KeyEvent → List (K × KeyEvent) → Bool
is_stray_item eq before item later = is_close item.1.change && not (was_open (last_or None (changes_of eq item.0 before)))

-- the place of an item
abbrev pub place_of : {K : Type 0} → K × KeyEvent → ℕ
place_of item = item.1.place

-- the places of the items that pass a test, in their order; the test sees the items before and after the tested one
abbrev pub places_if : {K : Type 0} → (List (K × KeyEvent) → K × KeyEvent → List (K × KeyEvent) → Bool)
    → List (K × KeyEvent) → List ℕ
places_if test items = map place_of (read_all (chosen test) items)
