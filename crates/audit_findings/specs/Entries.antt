-- The attachments of events that are found by their places.
use Rattle.std.specs.Prelude.{◌≡◌, ℕ, ◌+◌, ◌≤◌, Bool, List, [], ◌∷◌, ◌++◌, length, map, filter, All, Option, Some, None}
use Rattle.std.specs.List.{filter_map, sum_by}
use Rattle.capture_frame.specs.Envelope.{PlacedFrame}
use Rattle.capture_frame.specs.Lookup.{span_of}
use Rattle.capture_frame.specs.Units.{Placed}
use Rattle.transaction_view.specs.Attachments.{EntryText}
use Rattle.transaction_view.specs.State.{placed_entry}
use Rattle.event_core.specs.Events.{EventRead, events_of, events_of_frames}
use Rattle.event_core.specs.declared.event.Event.{Event}
use Rattle.transaction_view.specs.declared.entry.Entry.{Entry}
use Rattle.audit_findings.specs.Kept.{places_of}

-- how many bytes the lists of offsets of these entries have together
abbrev pub list_bytes : List Entry → ℕ
list_bytes entries = sum_by (λ entry. length entry.offsets.now) entries

-- an entry, if there is one, as a list
abbrev pub entry_list : Option Entry → List Entry
entry_list None = []
entry_list (Some entry) = entry ∷ []

-- the entry of an event, if it has one, as a list
abbrev pub entries_in : Event → List Entry
entries_in event = entry_list event.entry

-- the attachments of these events, in their order
abbrev pub carried_by : List EventRead → List (Placed EntryText)
carried_by events = filter_map (λ e. e.entry) events

-- the entries show these attachments
abbrev pub ShowAttachments : List Entry → List (Placed EntryText) → Type 0
ShowAttachments entries attachments = map placed_entry entries ≡ attachments

-- the places are those of the chosen events, followed by others
abbrev pub AreChosen : (EventRead → Bool) → List EventRead → List ℕ → List ℕ → Type 0
AreChosen choice events others places = places ≡ places_of (filter choice events) ++ others

-- Choose any events of the frame, and let the places be theirs, followed by others after the frame. Then the others are
-- left, and the new entries are the old ones followed by those of the chosen events.
abbrev pub AddsEntries : List Entry → PlacedFrame → List ℕ → List Entry → List ℕ → Type 0
AddsEntries old frame places new left =
    (choice : EventRead → Bool) (others : List ℕ) → All (λ place. frame.place + span_of frame ≤ place) others
    → AreChosen choice (events_of frame) others places
    → (left ≡ others) × ShowAttachments new (map placed_entry old ++ carried_by (filter choice (events_of frame)))

-- whatever events of these frames the places belong to, the entries show the attachments of those events
abbrev pub AreEntriesAt : List PlacedFrame → List ℕ → List Entry → Type 0
AreEntriesAt frames places entries =
    (choice : EventRead → Bool) → AreChosen choice (events_of_frames frames) [] places
    → ShowAttachments entries (carried_by (filter choice (events_of_frames frames)))
