-- The reader of frames.
use Rattle.std.specs.Prelude.{◌≡◌, ℕ, ◌+◌, ◌<◌, ◌≤◌, ◌^◌, List, length, drop, Option, Result}
use Rattle.capture_frame.specs.declared.fault.Fault.{Fault}
use Rattle.capture_frame.specs.declared.frame.Frame.{Frame}
use Rattle.capture_frame.specs.declared.frames.State.{State}
use Rattle.capture_frame.specs.declared.frames.State.TheVariants.{At, Failed}
use Rattle.capture_frame.specs.declared.version.Version.{Version}
use Rattle.capture_frame.specs.Envelope.{FrameText, PlacedFrame, in_version, placed_frame, file_header_length}
use Rattle.capture_frame.specs.Frames.{frame_parser}
use Rattle.capture_frame.specs.ReadOn.{Parsed, at_fault, parsed_by}
use Rattle.capture_frame.specs.Readers as readers

-- the frame that was read is this one, at its place
abbrev pub IsFrameView : PlacedFrame → Frame → Type 0
IsFrameView frame found = placed_frame found ≡ frame

-- one call of a reader of frames
abbrev pub Steps : Parsed FrameText → Result (Option Frame) Fault → Parsed FrameText → Type 0
Steps ahead result new = readers.Steps IsFrameView ahead result new

-- the frames ahead of a reader of a part of this version, right after its file header. The frame before it has the
-- sequence `last`, if there is one. Places are those in the part plus `base`.
abbrev pub frames_after : Version → List ℕ → ℕ → Option ℕ → Parsed FrameText
frames_after version part base last =
    parsed_by frame_parser (in_version version last) (base + file_header_length) (drop file_header_length part)

-- the frames ahead of a reader of these bytes, which begin at `start` and follow a file header of this version
abbrev pub ahead_of : Version → List ℕ → ℕ → State → Parsed FrameText
ahead_of version bytes start (At offset last) =
    parsed_by frame_parser (in_version version last) (start + offset) (drop offset bytes)
ahead_of version bytes start (Failed fault) = at_fault fault

-- the offset is within the bytes, and every place in them fits 64 bits
abbrev pub IsWithin : List ℕ → ℕ → State → Type 0
IsWithin bytes start (At offset last) = (offset ≤ length bytes) × (start + length bytes < 2 ^ 64)
IsWithin bytes start (Failed fault) = Unit {0}
