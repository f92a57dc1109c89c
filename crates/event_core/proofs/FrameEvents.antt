-- The events of a frame: where they are, how many, and how long their lists of offsets are. This holds of every frame.
use Rattle.std.proofs.Common.{ℕ, ◌+◌, ◌-◌, ◌*◌, ◌<◌, ◌≤◌, Bool, true, false, cond, List, [], ◌∷◌, length, get_or, Option, Some, None, ap, arith}
use Rattle.std.specs.Prelude.{All, AllPairs}
use Rattle.std.specs.List.{sum_by}
use Rattle.std.specs.Option.{option_map_or}
use Rattle.std.proofs.lemmas.List.{length-map}
use Rattle.std.proofs.lemmas.List.Elements.{All-map}
use Rattle.std.proofs.lemmas.List.Sums.{get_or-le-sum_by, sum_by-cons, sum_by-le-sum_by}
use Rattle.capture_frame.specs.Envelope.{FrameText, PlacedFrame, commands_place}
use Rattle.capture_frame.specs.Units.{Placed}
use Rattle.record_view.specs.Records.{RecordText, record_width, records_of}
use Rattle.record_view.proofs.RecordLaws.{records_apart, records_fit, records_there}
use Rattle.transaction_view.specs.Attachments.{EntryText, entries_of, entry_width}
use Rattle.event_core.specs.Events.{EventRead, belongs_to, event_of, event_with, events_of}
use Rattle.event_core.specs.State.{entries_after, entry_taken, events_beside}
use Rattle.transaction_view.proofs.EntryLaws.{entries_fit}
use Rattle.capture_frame.proofs.Pairs.{pairs_map}
use Rattle.event_core.proofs.SideBySide.{side_by_side}

pub events_rise : (frame : PlacedFrame) → AllPairs (λ a b. a.place < b.place) (events_of frame)
events_rise frame =
    pairs_map (λ (a b : EventRead). a.place < b.place) (event_of frame) (records_of frame).units
    (λ i j d below within. let apart = records_apart frame i j d below within in omega (arith, apart))

-- they are in the command bytes
pub events_within : (frame : PlacedFrame)
    → All (λ e. (commands_place frame.place ≤ e.place) × (e.place < commands_place frame.place + length frame.unit.commands)) (events_of frame)
events_within frame =
    All-map (λ (e : EventRead). (commands_place frame.place ≤ e.place) × (e.place < commands_place frame.place + length frame.unit.commands)) (event_of frame)
    (records_of frame).units (λ k d within. let there = records_there frame k d within in (there.0, omega (arith, there.1)))

few_records : (records : List (Placed RecordText)) → 4 * length records ≤ sum_by (λ r. record_width r.unit) records
few_records [] = omega arith
few_records (r ∷ records) = omega (arith, few_records records, sum_by-cons (λ (x : Placed RecordText). record_width x.unit) r records)

-- each takes four command bytes or more
pub events_few : (frame : PlacedFrame) → 4 * length (events_of frame) ≤ length frame.unit.commands
events_few frame =
    omega (arith, few_records (records_of frame).units, records_fit frame, length-map (records_of frame).units (event_of frame))

-- ---- their lists of offsets

-- how many bytes the list of offsets of an attachment has, and with them the 12 bytes that its entry begins with
abbrev list_of : Option (Placed EntryText) → ℕ
list_of attachment = option_map_or (λ (a : Placed EntryText). length a.unit.offset_bytes) attachment 0

abbrev taken_of : Option (Placed EntryText) → ℕ
taken_of attachment = option_map_or (λ (a : Placed EntryText). 12 + length a.unit.offset_bytes) attachment 0

abbrev pub list_length : EventRead → ℕ
list_length e = list_of e.entry

abbrev bytes_taken : EventRead → ℕ
bytes_taken e = taken_of e.entry

abbrev width_of : Placed EntryText → ℕ
width_of e = entry_width e.unit

-- an entry is taken once
one_taken : (place : ℕ) (entries : List (Placed EntryText))
    → taken_of (entry_taken place entries) + sum_by width_of (entries_after place entries) ≤ sum_by width_of entries
one_taken place [] = omega arith
one_taken place (e ∷ entries) = by_test (belongs_to place e)
  where
    by_test : (b : Bool) → taken_of (cond b (Some e) None) + sum_by width_of (cond b entries (e ∷ entries))
        ≤ sum_by width_of (e ∷ entries)
    by_test true = omega (arith, sum_by-cons width_of e entries)
    by_test false = omega arith

all_taken : (frame : FrameText) (records : List (Placed RecordText)) (entries : List (Placed EntryText))
    → sum_by bytes_taken (events_beside frame records entries) ≤ sum_by width_of entries
all_taken frame [] entries = omega arith
all_taken frame (r ∷ records) entries =
    let rest = entries_after r.place entries in
    let e = event_with frame r (entry_taken r.place entries) in
    omega (arith, one_taken r.place entries, all_taken frame records rest, sum_by-cons bytes_taken e (events_beside frame records rest))

taken_fit : (frame : PlacedFrame) → sum_by bytes_taken (events_of frame) ≤ length frame.unit.attachments
taken_fit frame =
    let taken = all_taken frame.unit (records_of frame).units (entries_of frame).units in
    omega (arith, taken, ap (sum_by bytes_taken) (side_by_side frame), entries_fit frame)

list_shorter : (attachment : Option (Placed EntryText)) → (list_of attachment ≤ taken_of attachment) × (list_of attachment ≤ taken_of attachment - 12)
list_shorter None = (omega arith, omega arith)
list_shorter (Some a) = (omega arith, omega arith)

-- together they fit the attachment bytes
pub lists_fit : (frame : PlacedFrame) → sum_by list_length (events_of frame) ≤ length frame.unit.attachments
lists_fit frame =
    let less = sum_by-le-sum_by list_length bytes_taken (events_of frame) (λ e. (list_shorter e.entry).0) in
    omega (arith, less, taken_fit frame)

-- each is shorter by the 12 bytes that its entry begins with
pub lists_small : (frame : PlacedFrame) → All (λ e. list_length e ≤ length frame.unit.attachments - 12) (events_of frame)
lists_small frame k d within =
    let one = get_or-le-sum_by bytes_taken (events_of frame) k d within in
    omega (arith, one, taken_fit frame, (list_shorter (get_or (events_of frame) k d).entry).1)
