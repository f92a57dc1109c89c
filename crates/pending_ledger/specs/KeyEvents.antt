-- The opens and closes of one key alone.
use Rattle.std.specs.Prelude.{ℕ, Bool, true, false, List, [], ◌∷◌, map, Option, Some, None, if◌then◌else◌}
use Rattle.std.specs.List.{list_any}
use Rattle.event_core.specs.declared.pending.KeyEvent.{KeyEvent}
use Rattle.event_core.specs.declared.pending.PendingChange.{PendingChange}
use Rattle.event_core.specs.declared.pending.PendingChange.TheVariants.{Open, Close}
use Rattle.pending_ledger.specs.Pending.{is_close}

-- the place of an event
abbrev pub event_place : KeyEvent → ℕ
event_place event = event.place

-- what an event does: it opens the key or closes it
abbrev pub event_change : KeyEvent → PendingChange
event_change event = event.change

-- whether an event is a close
abbrev pub is_closing : KeyEvent → Bool
is_closing event = is_close event.change

-- the elements after the last one that passes the test, or all elements if none passes
abbrev pub after_last : {X : Type 0} → (X → Bool) → List X → List X
after_last test [] = []
after_last test (x ∷ xs) = if list_any test (x ∷ xs) then after_last test xs else x ∷ xs

-- the places of the opens that no close follows: these are all events after the last close
abbrev pub open_places : List KeyEvent → List ℕ
open_places events = map event_place (after_last is_closing events)

-- whether a change is a close that does not come right after an open; `before` is what comes right before it
abbrev pub is_unmet : Option PendingChange → PendingChange → Bool
is_unmet before Open = false
is_unmet (Some Open) Close = false
is_unmet (Some Close) Close = true
is_unmet None Close = true

-- the places of the closes that do not come right after an open; `before` is what comes right before the list
abbrev pub unmet_places : Option PendingChange → List KeyEvent → List ℕ
unmet_places before [] = []
unmet_places before (event ∷ later) =
    if is_unmet before event.change
    then event.place ∷ unmet_places (Some event.change) later
    else unmet_places (Some event.change) later

-- what the first event does, if there is one
abbrev pub first_change : List KeyEvent → Option PendingChange
first_change [] = None
first_change (event ∷ later) = Some event.change

-- how many closes of a list are met by the change right before the list: one, if that is an open and the list begins
-- with a close
abbrev pub met_count : Option PendingChange → Option PendingChange → ℕ
met_count (Some Open) (Some Close) = 1
met_count (Some Open) (Some Open) = 0
met_count (Some Open) None = 0
met_count (Some Close) after = 0
met_count None after = 0
