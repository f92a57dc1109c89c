-- The frames and the records of a capture that the raw tables have, and the rows that are written of them.
use Rattle.std.specs.Prelude.{ℕ, ◌≡◌, ◌≢◌, bit_and, List, [], ◌∷◌, drop, length, map, take, Option, Some, None}
use Rattle.capture_frame.specs.Cut.{cut_of}
use Rattle.capture_frame.specs.declared.fault.Fault.{Fault}
use Rattle.capture_frame.specs.Envelope.{PlacedFrame, direction_number}
use Rattle.capture_frame.specs.Parts.{joined_frames}
use Rattle.capture_frame.specs.Units.{Placed}
use Rattle.record_view.specs.Records.{RecordText, records_of}
use Rattle.transaction_view.specs.Grammar.{content_fault}
use Rattle.transaction_view.specs.Transaction.{data_size, flags}
use Rattle.binder_code.specs.declared.record_kind.Kind.TheVariants.{BrReply}
use Rattle.listing_fields.specs.declared.content.Item.{Item}
use Rattle.listing_fields.specs.declared.named.Named.{Named}
use Rattle.listing_tables.specs.Columns.{column_of}
use Rattle.listing_tables.specs.declared.rows.Column.{Column}
use Rattle.listing_tables.specs.declared.rows.Column.TheVariants.{Number}
use Rattle.listing_tables.specs.declared.tables.Tables.{Tables}
use Rattle.listing_tables.specs.Steps.{KeepsAll}

-- these frames, unless there is a fault before them
abbrev pub unless_fault : Option Fault → List PlacedFrame → List PlacedFrame
unless_fault None frames = frames
unless_fault (Some fault) frames = []

-- the frames up to the first one whose content has a fault, and that one
abbrev pub up_to_fault : List PlacedFrame → List PlacedFrame
up_to_fault [] = []
up_to_fault (frame ∷ frames) = frame ∷ unless_fault (content_fault frame) (up_to_fault frames)

-- The frames of these parts that count: those before the first fault of a header, up to the first one whose content has
-- a fault, and that one. All records of these frames count that come before the fault.
abbrev pub counted_frames : List (List ℕ) → List PlacedFrame
counted_frames parts = up_to_fault (joined_frames (cut_of parts).frames)

-- What the row of a frame has: its sequence, its place, its direction, how many command bytes and attachment bytes it
-- has, and how many of its records come before a fault. Of the thread, the third column, nothing is said.
pub record IsFrameRow (frame : PlacedFrame) (row : List Column) : Type 0 where
  pub begins : take 2 row ≡ Number frame.unit.sequence ∷ Number frame.place ∷ []
  pub ends : drop 3 row ≡ Number (direction_number frame.unit.direction) ∷ Number (length frame.unit.commands)
      ∷ Number (length frame.unit.attachments) ∷ Number (length (records_of frame).units) ∷ []

-- what the row of a record begins with: its place, and the sequence of its frame
abbrev pub record_begin : PlacedFrame → Placed RecordText → List Column
record_begin frame there = Number there.place ∷ Number frame.unit.sequence ∷ []

-- what the rows of a frame's records begin with
abbrev pub record_begins : PlacedFrame → List (List Column)
record_begins frame = map (record_begin frame) (records_of frame).units

-- the row begins with these columns
abbrev pub BeginsWith : List Column → List Column → Type 0
BeginsWith begin row = take 2 row ≡ begin

-- the row of a record has what the record names, each in its column
abbrev pub HasNames : Named → List Column → Type 0
HasNames named row =
    take 4 (drop 4 row) ≡ column_of named.handle ∷ column_of named.ptr ∷ column_of named.cookie ∷ column_of named.address ∷ []

-- a record is a reply that a thread gets, with TF_STATUS_CODE and four bytes of data
pub record HasStatus (item : Item) : Type 0 where
  pub reply : item.record.kind ≡ BrReply
  pub flag : bit_and (flags item.record.payload.now) 8 ≢ 0
  pub size : data_size item.record.payload.now ≡ 4

-- no record has left a mark yet
abbrev pub HasNoSteps : Tables → Type 0
HasNoSteps tables = KeepsAll tables.steps.entries.entries []
