-- Which part of a capture a fault of the joined capture is in.
use Rattle.std.specs.Prelude.{ℕ, ◌-◌, ◌<◌, ◌⊎◌, nat_lt, if◌then◌else◌, List, [], ◌∷◌, length}
use Rattle.capture_frame.specs.declared.fault.Fault.{Fault}
use Rattle.capture_frame.specs.declared.fault.PartFault.{PartFault}
use Rattle.capture_frame.specs.Envelope.{file_header_length}
use Rattle.capture_frame.specs.Parts.{one_part_on}
use Rattle.capture_frame.specs.Tests.{fault_at}

-- a place in this part and the later ones, without the bytes of this part after its file header
abbrev pub after_part : List ℕ → ℕ → ℕ
after_part part place = place - (length part - file_header_length)

-- The fault of a joined capture as the fault of the part that it is in, at its place in that part. Parts count from 1.
-- The parts after the first are joined without their file headers.
abbrev pub in_part : List (List ℕ) → Fault → PartFault
in_part [] fault = record { part = 1; fault = fault }
in_part (part ∷ parts) fault =
    if nat_lt fault.place (length part) then record { part = 1; fault = fault }
    else one_part_on (in_part parts (fault_at fault.kind (after_part part fault.place)))

-- the place of a joined capture is in one of its parts
abbrev pub IsInPart : List (List ℕ) → ℕ → Type 0
IsInPart [] place = ⊥
IsInPart (part ∷ parts) place = (place < length part) ⊎ IsInPart parts (after_part part place)
