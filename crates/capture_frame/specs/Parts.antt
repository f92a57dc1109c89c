-- The frames of a capture in parts, up to the first fault (docs/ENVELOPE.md).
use Rattle.std.specs.Prelude.{◌≡◌, ℕ, suc, ◌==◌, nat_eq, nat_le, Bool, if◌then◌else◌, List, [], ◌∷◌, ◌++◌, length, drop, Option, Some, None, Result, Ok, Err, ⊤}
use Rattle.std.specs.List.{starts_with, flat_map}
use Rattle.std.specs.Option.{option_map}
use Rattle.capture_frame.specs.declared.fault.Fault.{Fault}
use Rattle.capture_frame.specs.declared.fault.FaultKind.TheVariants.{HeaderShort, HeaderMagic, HeaderProtocol, HeaderReserved}
use Rattle.capture_frame.specs.declared.fault.PartFault.{PartFault}
use Rattle.capture_frame.specs.declared.version.Version.{Version}
use Rattle.capture_frame.specs.declared.version.Version.TheVariants.{One, Two}
use Rattle.capture_frame.specs.Envelope.{FrameText, PlacedFrame, Before, magic, file_header, file_header_length, frame_width, in_version, number_at}
use Rattle.capture_frame.specs.ReadOn.{Parser, Parsed, at_fault, parsed_by}
use Rattle.capture_frame.specs.Tests.{tested, fault_at}
use Rattle.capture_frame.specs.Units.{placed, units_of}

-- the version of a file header. Any magic but that of version 1 counts as that of version 2, which does not matter,
-- since no good file header has another.
abbrev pub version_at : List ℕ → Version
version_at bytes = if starts_with nat_eq bytes (magic One) then One else Two

-- the tests of a file header
abbrev pub header_tests : List ℕ → List (Bool × Fault)
header_tests bytes =
    (nat_le file_header_length (length bytes), fault_at HeaderShort 0)
    ∷ (starts_with nat_eq bytes (magic (version_at bytes)), fault_at HeaderMagic 0)
    ∷ (number_at 4 8 bytes == 8, fault_at HeaderProtocol 8)
    ∷ (number_at 4 12 bytes == 0, fault_at HeaderReserved 12)
    ∷ []

-- the version that the file header of a part names, or its fault
abbrev pub header_at : List ℕ → Result Version Fault
header_at part = tested (header_tests part) (version_at part)

-- the frames of a part whose file header has this version, or the fault of that header
abbrev pub frames_if : Parser Before FrameText → Option ℕ → List ℕ → Result Version Fault → Parsed FrameText
frames_if parser last part (Ok version) =
    parsed_by parser (in_version version last) file_header_length (drop file_header_length part)
frames_if parser last part (Err fault) = at_fault fault

-- the frames of a part, each at its place in the part, up to the first fault. The first of them comes after the frame
-- with the sequence `last`, if there is one.
abbrev pub frames_of_part : Parser Before FrameText → Option ℕ → List ℕ → Parsed FrameText
frames_of_part parser last part = frames_if parser last part (header_at part)

-- the sequence of the last of these frames, or `last` if there are none
abbrev pub last_of : Option ℕ → List FrameText → Option ℕ
last_of last [] = last
last_of last (frame ∷ frames) = last_of (Some frame.sequence) frames

-- what parts come to: their frames up to the first fault, and that fault with the number of its part, from 1
pub record ParsedParts : Type 0 where
  pub frames : List FrameText
  pub fault : Option PartFault

-- the fault with one more part before it
abbrev pub one_part_on : PartFault → PartFault
one_part_on found = record { part = suc found.part; fault = found.fault }

-- what parts come to, where the first has these frames and this fault, if any, and the others come to `later`
abbrev pub part_and_later : List FrameText → Option Fault → ParsedParts → ParsedParts
part_and_later frames (Some fault) later = record { frames = frames; fault = Some (record { part = 1; fault = fault }) }
part_and_later frames None later = record {
  frames = frames ++ later.frames;
  fault = option_map one_part_on later.fault;
}

-- what these parts come to. The first frame comes after the one with the sequence `last`, if there is one.
abbrev pub parts_read : Parser Before FrameText → Option ℕ → List (List ℕ) → ParsedParts
parts_read parser last [] = record { frames = []; fault = None }
parts_read parser last (part ∷ parts) =
    let first = frames_of_part parser last part in
    part_and_later (units_of first.units) first.fault (parts_read parser (last_of last (units_of first.units)) parts)

-- these frames, each at its place in the joined capture, where they follow a file header, one after another
abbrev pub joined_frames : List FrameText → List PlacedFrame
joined_frames frames = placed frame_width file_header_length frames

-- the joined capture of this version: one file header, and then what follows the file header of each part
abbrev pub joined_as : Version → List (List ℕ) → List ℕ
joined_as version parts = file_header version ++ flat_map (λ part. drop file_header_length part) parts

-- the joined capture, of version 2
abbrev pub joined : List (List ℕ) → List ℕ
joined parts = joined_as Two parts

-- what is a frame in this other version is one in this version
abbrev pub Takes : Version → Version → Type 0
Takes Two other = ⊤
Takes One One = ⊤
Takes One Two = ⊥

-- a good file header of the part names a version whose frames this version takes
abbrev pub TakesPart : Version → List ℕ → Type 0
TakesPart version part = (named : Version) → header_at part ≡ Ok named → Takes version named
