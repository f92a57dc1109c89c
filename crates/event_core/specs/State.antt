-- The reader of events, and the one below it, which passes the records of a frame and its entries side by side.
use Rattle.std.specs.Prelude.{ℕ, ◌≡◌, if◌then◌else◌, List, [], ◌∷◌, Option, Some, None}
use Rattle.std.specs.Option.{option_map}
use Rattle.capture_frame.specs.Envelope.{FrameText}
use Rattle.capture_frame.specs.Units.{Placed}
use Rattle.record_view.specs.declared.record.Record.{Record}
use Rattle.record_view.specs.Records.{RecordText}
use Rattle.record_view.specs.State.{placed_record}
use Rattle.transaction_view.specs.declared.entry.Entry.{Entry}
use Rattle.transaction_view.specs.Attachments.{EntryText}
use Rattle.transaction_view.specs.State.{placed_entry}
use Rattle.event_core.specs.Events.{EventRead, belongs_to, event_with}

-- the entries that are left: the one ahead and those after it, or none if none is ahead
abbrev pub entries_left : Option Entry → List (Placed EntryText) → List (Placed EntryText)
entries_left (Some found) later = placed_entry found ∷ later
entries_left None later = []

-- the first of these entries, if it belongs to the record at this place
abbrev pub entry_taken : ℕ → List (Placed EntryText) → Option (Placed EntryText)
entry_taken place [] = None
entry_taken place (e ∷ entries) = if belongs_to place e then Some e else None

-- the entries without it
abbrev pub entries_after : ℕ → List (Placed EntryText) → List (Placed EntryText)
entries_after place [] = []
entries_after place (e ∷ entries) = if belongs_to place e then entries else e ∷ entries

-- what is ahead of the reader of records and entries
pub record Beside : Type 0 where
  pub records : List (Placed RecordText)
  pub entries : List (Placed EntryText)

-- One call of it. It gives the first record ahead, with the first entry ahead if that belongs to the record; at the end
-- it gives `None`.
abbrev pub StepsBeside : Beside → Option (Record × Option Entry) → Beside → Type 0
StepsBeside ahead (Some (found, taken)) new =
    (ahead.records ≡ placed_record found ∷ new.records)
    × (option_map placed_entry taken ≡ entry_taken found.place ahead.entries)
    × (new.entries ≡ entries_after found.place ahead.entries)
StepsBeside ahead None new = (ahead.records ≡ []) × (new.records ≡ [])

-- the events of these records of a frame, to which these entries belong, in the order of the records
abbrev pub events_beside : FrameText → List (Placed RecordText) → List (Placed EntryText) → List EventRead
events_beside frame [] entries = []
events_beside frame (there ∷ records) entries =
    event_with frame there (entry_taken there.place entries)
    ∷ events_beside frame records (entries_after there.place entries)
