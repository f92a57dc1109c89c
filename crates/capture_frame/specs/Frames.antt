-- The frames that bytes begin with, as far as their headers say (docs/ENVELOPE.md).
use Rattle.std.specs.Prelude.{ℕ, zero, suc, ◌+◌, ◌==◌, ◌&&◌, ◌||◌, nat_le, Bool, true, List, [], ◌∷◌, length, take, drop, Some, Result}
use Rattle.capture_frame.specs.declared.direction.Direction.{Direction}
use Rattle.capture_frame.specs.declared.direction.Direction.TheVariants.{Write, Read}
use Rattle.capture_frame.specs.declared.fault.FaultKind.{FaultKind}
use Rattle.capture_frame.specs.declared.fault.FaultKind.TheVariants.{FrameShort, FrameSequence, FrameDirection, FrameReserved, FrameLength}
use Rattle.capture_frame.specs.declared.version.Version.{Version}
use Rattle.capture_frame.specs.declared.version.Version.TheVariants.{One, Two}
use Rattle.capture_frame.specs.Envelope.{FrameText, Before, in_version, frame_header_length, frame_width, number_at, sequence_at, direction_at, device_at, command_length, attachment_length}
use Rattle.capture_frame.specs.ReadOn.{Parser}
use Rattle.capture_frame.specs.Tests.{tested, at_place, is_above}

-- the direction that a byte names: 1 a write, 2 a read. Any other byte counts as a read, which does not matter, since
-- no good frame has one.
abbrev pub frame_direction : ℕ → Direction
frame_direction zero = Read
frame_direction (suc zero) = Write
frame_direction (suc (suc n)) = Read

-- the frame that these bytes begin with, field by field
abbrev pub frame_at_start : List ℕ → FrameText
frame_at_start bytes = record {
  sequence = sequence_at bytes;
  device = device_at bytes;
  process = number_at 4 8 bytes;
  thread = number_at 4 12 bytes;
  direction = frame_direction (direction_at bytes);
  commands = take (command_length bytes) (drop frame_header_length bytes);
  attachments = take (attachment_length bytes) (drop (frame_header_length + command_length bytes) bytes);
}

-- whether the bytes have all bytes of the frame that they begin with
abbrev pub has_whole_frame : List ℕ → Bool
has_whole_frame bytes = nat_le (frame_header_length + (command_length bytes + attachment_length bytes)) (length bytes)

-- whether the version allows this device: in version 1 it is 0, in version 2 it is any number
abbrev pub is_device_in : Version → ℕ → Bool
is_device_in One device = device == 0
is_device_in Two device = true

-- the tests of a frame header
abbrev pub frame_tests : Before → List ℕ → List (Bool × FaultKind)
frame_tests before bytes =
    (nat_le frame_header_length (length bytes), FrameShort)
    ∷ (is_above before.last (sequence_at bytes), FrameSequence)
    ∷ (direction_at bytes == 1 || direction_at bytes == 2, FrameDirection)
    ∷ (number_at 3 17 bytes == 0 && is_device_in before.version (device_at bytes), FrameReserved)
    ∷ (has_whole_frame bytes, FrameLength)
    ∷ []

-- the frame that the bytes begin with, or the kind of its fault
abbrev pub frame_at : Before → List ℕ → Result FrameText FaultKind
frame_at before bytes = tested (frame_tests before bytes) (frame_at_start bytes)

-- how frames are read, as far as their headers say
abbrev pub frame_parser : Parser Before FrameText
frame_parser = record {
  first = λ before place bytes. at_place place (frame_at before bytes);
  width = frame_width;
  after = λ before frame. in_version before.version (Some frame.sequence);
}
