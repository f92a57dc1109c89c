-- The frames of a capture's parts, judged with their records and entries, or the first fault (docs/ENVELOPE.md).
use Rattle.std.specs.Prelude.{◌≡◌, ℕ, List, [], ◌∷◌, Option, Some, None, Result, Ok, Err}
use Rattle.std.specs.Option.{option_or}
use Rattle.capture_frame.specs.declared.fault.Fault.{Fault}
use Rattle.capture_frame.specs.declared.fault.PartFault.{PartFault}
use Rattle.capture_frame.specs.Envelope.{FrameText, PlacedFrame, Before}
use Rattle.capture_frame.specs.Frames.{frame_at, frame_parser}
use Rattle.capture_frame.specs.Parts.{ParsedParts, parts_read, joined_frames}
use Rattle.capture_frame.specs.ReadOn.{Parser}
use Rattle.capture_frame.specs.Tests.{at_place}
use Rattle.capture_frame.specs.Units.{placed_at}
use Rattle.record_view.specs.Records.{records_of}
use Rattle.transaction_view.specs.Attachments.{entries_of}

-- the first fault of a frame's content: that of its records, or, if these are good, that of its entries
abbrev pub content_fault : PlacedFrame → Option Fault
content_fault frame = option_or (records_of frame).fault (entries_of frame).fault

-- the records and entries of the frame have no fault
abbrev pub IsGood : PlacedFrame → Type 0
IsGood frame = content_fault frame ≡ None

-- the first fault of the content of these frames
abbrev pub first_content_fault : List PlacedFrame → Option Fault
first_content_fault [] = None
first_content_fault (frame ∷ frames) = option_or (content_fault frame) (first_content_fault frames)

-- this unit, or the fault if there is one
abbrev pub unless : {U F : Type 0} → Option F → U → Result U F
unless (Some fault) unit = Err fault
unless None unit = Ok unit

-- this frame, unless its header or its content has a fault: then the first fault
abbrev pub with_content : ℕ → Result FrameText Fault → Result FrameText Fault
with_content place (Ok frame) = unless (content_fault (placed_at place frame)) frame
with_content place (Err fault) = Err fault

-- how frames are read if they are judged with their content
abbrev pub whole_parser : Parser Before FrameText
whole_parser = record {
  first = λ before place bytes. with_content place (at_place place (frame_at before bytes));
  width = frame_parser.width;
  after = frame_parser.after;
}

-- what these parts come to, if frames are judged with their content
abbrev pub wholes_of : List (List ℕ) → ParsedParts
wholes_of parts = parts_read whole_parser None parts

-- the frames of the parts of a capture, each at its place in the joined capture, or the first fault
abbrev pub frames_of_parts : List (List ℕ) → Result (List PlacedFrame) PartFault
frames_of_parts parts = unless (wholes_of parts).fault (joined_frames (wholes_of parts).frames)
