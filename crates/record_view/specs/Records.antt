-- The records of a frame's command bytes: each a code word and its payload (`linux/android/binder.h`,
-- BINDER_WRITE_READ; docs/COMMANDS.md).
use Rattle.std.specs.Prelude.{ℕ, ◌+◌, ◌-◌, nat_le, Bool, true, false, List, [], ◌∷◌, ◌++◌, length, take, drop, Result, Ok, Err}
use Rattle.byteorder.specs.Endian.{little_bytes}
use Rattle.binder_code.specs.declared.protocol.Protocol.{Protocol}
use Rattle.binder_code.specs.declared.protocol.Protocol.TheVariants.{Command, Return}
use Rattle.binder_code.specs.declared.code.CodeFault.{CodeFault}
use Rattle.binder_code.specs.declared.code.CodeFault.TheVariants as code_fault
use Rattle.binder_code.specs.declared.record_kind.Kind.{Kind}
use Rattle.binder_code.specs.Code.{size}
use Rattle.binder_code.specs.Commands.{kind_of}
use Rattle.capture_frame.specs.declared.direction.Direction.{Direction}
use Rattle.capture_frame.specs.declared.direction.Direction.TheVariants.{Write, Read}
use Rattle.capture_frame.specs.declared.fault.FaultKind.{FaultKind}
use Rattle.capture_frame.specs.declared.fault.FaultKind.TheVariants.{RecordShort, RecordDirection, RecordSize}
use Rattle.capture_frame.specs.Envelope.{PlacedFrame, commands_place, number_at}
use Rattle.capture_frame.specs.ReadOn.{Parser, Parsed, parsed_by}
use Rattle.capture_frame.specs.Tests.{tested, at_place}

-- the protocol whose codes a frame of this direction has: a write has commands (BC_), a read has returns (BR_)
abbrev pub protocol_of : Direction → Protocol
protocol_of Write = Command
protocol_of Read = Return

-- what a record says: its code word and its payload
pub record RecordText : Type 0 where
  pub code : ℕ
  pub payload : List ℕ

-- a record as bytes: its code word in four bytes, then its payload
unfoldable pub record_bytes : RecordText → List ℕ
record_bytes r = little_bytes 4 r.code ++ r.payload

-- how many bytes a record takes
abbrev pub record_width : RecordText → ℕ
record_width r = 4 + length r.payload

-- the code word of a record, 4 bytes at 0
abbrev pub code_at : List ℕ → ℕ
code_at bytes = number_at 4 0 bytes

-- whether the letter and the direction bits of a code word that means this are those of the frame's protocol
abbrev pub is_directed : Result Kind CodeFault → Bool
is_directed (Err code_fault.Direction) = false
is_directed (Err code_fault.Size) = true
is_directed (Ok kind) = true

-- whether a code word that means this has the size that its number is listed with, if it is listed
abbrev pub is_sized : Result Kind CodeFault → Bool
is_sized (Err code_fault.Direction) = true
is_sized (Err code_fault.Size) = false
is_sized (Ok kind) = true

-- the tests of a record
abbrev pub record_tests : Protocol → List ℕ → List (Bool × FaultKind)
record_tests protocol bytes =
    (nat_le 4 (length bytes), RecordShort)
    ∷ (is_directed (kind_of protocol (code_at bytes)), RecordDirection)
    ∷ (is_sized (kind_of protocol (code_at bytes)), RecordSize)
    ∷ (nat_le (4 + size (code_at bytes)) (length bytes), RecordShort)
    ∷ []

-- the record that the bytes begin with, field by field
abbrev pub record_at_start : List ℕ → RecordText
record_at_start bytes = record { code = code_at bytes; payload = take (size (code_at bytes)) (drop 4 bytes) }

-- the record that the bytes begin with, or the kind of its fault
abbrev pub record_at : Protocol → List ℕ → Result RecordText FaultKind
record_at protocol bytes = tested (record_tests protocol bytes) (record_at_start bytes)

-- how the records of a frame of this direction are read
abbrev pub record_parser : Direction → Parser (Unit {0}) RecordText
record_parser direction = record {
  first = λ _ place bytes. at_place place (record_at (protocol_of direction) bytes);
  width = record_width;
  after = λ _ r. tt;
}

-- the records of a frame from a place of its command bytes on, up to the first fault
abbrev pub records_from : PlacedFrame → ℕ → Parsed RecordText
records_from frame place =
    parsed_by (record_parser frame.unit.direction) tt place (drop (place - commands_place frame.place) frame.unit.commands)

-- the records of a frame, up to the first fault
abbrev pub records_of : PlacedFrame → Parsed RecordText
records_of frame = parsed_by (record_parser frame.unit.direction) tt (commands_place frame.place) frame.unit.commands
