-- The capture of what comes before the first fault of a malformed one.
use Rattle.std.specs.Prelude.{ℕ, ◌-◌, List, ◌++◌, take, Option, Some, None}
use Rattle.std.specs.List.{flat_map}
use Rattle.capture_frame.specs.declared.fault.Fault.{Fault}
use Rattle.capture_frame.specs.declared.version.Version.TheVariants.{Two}
use Rattle.capture_frame.specs.Envelope.{FrameText, PlacedFrame, attachments_place, commands_place, file_header, frame_bytes}
use Rattle.transaction_view.specs.Grammar.{content_fault}
use Rattle.listing_tables.specs.Walk.{counted_frames}

-- those of the bytes, which begin at `start`, that come before a place
abbrev pub before_place : ℕ → ℕ → List ℕ → List ℕ
before_place place start bytes = take (place - start) bytes

-- what comes before the fault of a frame's content, if it has one
abbrev pub before_fault : PlacedFrame → Option Fault → FrameText
before_fault frame None = frame.unit
before_fault frame (Some fault) = record {
  sequence = frame.unit.sequence;
  device = frame.unit.device;
  process = frame.unit.process;
  thread = frame.unit.thread;
  direction = frame.unit.direction;
  commands = before_place fault.place (commands_place frame.place) frame.unit.commands;
  attachments = before_place fault.place (attachments_place frame.unit frame.place) frame.unit.attachments;
}

-- what is good of a frame: all of it, or its records, or its attachment entries, before the fault of its content
abbrev pub good_part : PlacedFrame → FrameText
good_part frame = before_fault frame (content_fault frame)

-- a capture of version 2, in one file, of what is good of these frames
abbrev pub good_capture : List PlacedFrame → List ℕ
good_capture frames = file_header Two ++ flat_map (λ frame. frame_bytes (good_part frame)) frames

-- what comes before the first fault of these parts, as a capture
abbrev pub capture_before_fault : List (List ℕ) → List ℕ
capture_before_fault parts = good_capture (counted_frames parts)
