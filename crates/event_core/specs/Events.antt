-- The events of a capture: one for each record, with its process, its thread and its attachment (docs/REPORT.md).
use Rattle.std.specs.Prelude.{ℕ, ◌==◌, Bool, List, map, find, Contains, Option, None}
use Rattle.std.specs.List.{flat_map}
use Rattle.binder_code.specs.declared.record_kind.Kind.{Kind}
use Rattle.binder_code.specs.Commands.{kind_of_word}
use Rattle.capture_frame.specs.declared.process.Process.{Process}
use Rattle.capture_frame.specs.declared.process.Thread.{Thread}
use Rattle.capture_frame.specs.Units.{Placed, placed_at}
use Rattle.capture_frame.specs.Envelope.{FrameText, PlacedFrame}
use Rattle.record_view.specs.Records.{RecordText, records_of}
use Rattle.transaction_view.specs.Attachments.{EntryText, entries_of}

-- what an event says: the place of its record, the device, the process and the thread of its frame, its kind, its code
-- word, its payload, and its attachment if it has one: the entry that belongs to it, at its place
pub record EventRead : Type 0 where
  pub place : ℕ
  pub device : ℕ
  pub process : ℕ
  pub thread : ℕ
  pub kind : Kind
  pub code : ℕ
  pub payload : List ℕ
  pub entry : Option (Placed EntryText)

-- the process of an event: its device and its process number together
abbrev pub process_of : EventRead → Process
process_of e = record { device = e.device; number = e.process }

-- the thread of an event: its process and its thread number together
abbrev pub thread_of : EventRead → Thread
thread_of e = record { process = process_of e; number = e.thread }

-- the event of a record of a frame, with this attachment. The record's code word says its kind.
abbrev pub event_with : FrameText → Placed RecordText → Option (Placed EntryText) → EventRead
event_with frame there attachment = record {
  place = there.place;
  device = frame.device;
  process = frame.process;
  thread = frame.thread;
  kind = kind_of_word there.unit.code;
  code = there.unit.code;
  payload = there.unit.payload;
  entry = attachment;
}

-- the event of a record of a frame, without its attachment
abbrev pub bare_event : FrameText → Placed RecordText → EventRead
bare_event frame there = event_with frame there None

-- whether an entry belongs to the record at this place
abbrev pub belongs_to : ℕ → Placed EntryText → Bool
belongs_to place there = there.unit.owner == place

-- the attachment of the record at a place: the entry of the frame that belongs to it, if there is one
abbrev pub attachment_of : PlacedFrame → ℕ → Option (Placed EntryText)
attachment_of frame place = find (belongs_to place) (entries_of frame).units

-- the event of a record of a frame
abbrev pub event_of : PlacedFrame → Placed RecordText → EventRead
event_of frame there = event_with frame.unit there (attachment_of frame there.place)

-- the events of a frame: one for each record, in rising place
abbrev pub events_of : PlacedFrame → List EventRead
events_of frame = map (event_of frame) (records_of frame).units

-- the events of these frames, frame after frame
abbrev pub events_of_frames : List PlacedFrame → List EventRead
events_of_frames frames = flat_map events_of frames

-- the event at this place, if one of these is there
abbrev pub event_at_place : ℕ → List EventRead → Option EventRead
event_at_place place events = find (λ e. e.place == place) events

-- this record of the frame begins at this place of the capture
abbrev pub RecordIsAtPlace : PlacedFrame → ℕ → RecordText → Type 0
RecordIsAtPlace frame place found = Contains (records_of frame).units (placed_at place found)

-- some record of the frame begins at this place of the capture
abbrev pub HasRecordAt : PlacedFrame → ℕ → Type 0
HasRecordAt frame place = (found : RecordText) × RecordIsAtPlace frame place found
