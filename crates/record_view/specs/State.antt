-- The reader of a frame's records.
use Rattle.std.specs.Prelude.{◌≡◌, ◌+◌, ◌≤◌, length, drop, Option, Result}
use Rattle.binder_code.specs.Commands.{kind_of_word}
use Rattle.capture_frame.specs.declared.fault.Fault.{Fault}
use Rattle.capture_frame.specs.declared.frame.Frame.{Frame}
use Rattle.capture_frame.specs.Envelope.{commands_place}
use Rattle.capture_frame.specs.ReadOn.{Parsed, at_fault, parsed_by}
use Rattle.capture_frame.specs.Readers as readers
use Rattle.capture_frame.specs.Units.{Placed, placed_at}
use Rattle.record_view.specs.declared.record.Record.{Record}
use Rattle.record_view.specs.declared.records.State.{State}
use Rattle.record_view.specs.declared.records.State.TheVariants.{At, Failed}
use Rattle.record_view.specs.Records.{RecordText, record_parser}

-- what a record that was read says
abbrev pub record_text : Record → RecordText
record_text r = record { code = r.code.0; payload = r.payload.now }

-- what a record that was read says, and where it begins
abbrev pub placed_record : Record → Placed RecordText
placed_record r = placed_at r.place (record_text r)

-- the record that was read is this one, at its place, and its kind is what its code word means
pub record IsRecordView (there : Placed RecordText) (found : Record) : Type 0 where
  pub same : placed_record found ≡ there
  pub kind : found.kind ≡ kind_of_word there.unit.code

-- one call of a reader of records
abbrev pub Steps : Parsed RecordText → Result (Option Record) Fault → Parsed RecordText → Type 0
Steps ahead result new = readers.Steps IsRecordView ahead result new

-- the records ahead of a reader of this frame
abbrev pub ahead_of : Frame → State → Parsed RecordText
ahead_of frame (At offset) =
    parsed_by (record_parser frame.direction) tt (commands_place frame.place + offset)
    (drop offset frame.commands.now)
ahead_of frame (Failed fault) = at_fault fault

-- the offset is within the command bytes
abbrev pub IsWithin : Frame → State → Type 0
IsWithin frame (At offset) = offset ≤ length frame.commands.now
IsWithin frame (Failed fault) = Unit {0}
