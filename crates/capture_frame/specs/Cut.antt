-- All frames of a capture at once, or those before its first fault, as far as the headers say.
use Rattle.std.specs.Prelude.{◌≡◌, ℕ, ◌+◌, ◌-◌, List, [], ◌∷◌, ◌++◌, length, map, Option, None, Some}
use Rattle.capture_frame.specs.declared.cut_off.Cut.{Cut}
use Rattle.capture_frame.specs.declared.cut_off.Cut.TheVariants as cut
use Rattle.capture_frame.specs.declared.cut_off.PartCut.{PartCut}
use Rattle.capture_frame.specs.declared.cut_off.PartCut.TheVariants as part_cut
use Rattle.capture_frame.specs.declared.cut_off.Stopped.{Stopped}
use Rattle.capture_frame.specs.declared.cut_off.Stopped.TheVariants as stopped
use Rattle.capture_frame.specs.declared.fault.Fault.{Fault}
use Rattle.capture_frame.specs.declared.fault.PartFault.{PartFault}
use Rattle.capture_frame.specs.declared.frame.Frame.{Frame}
use Rattle.capture_frame.specs.declared.frame_list.PartBytes.{PartBytes}
use Rattle.capture_frame.specs.Envelope.{PlacedFrame, FrameText, file_header_length, frame_width, placed_frame}
use Rattle.capture_frame.specs.FrameList.{AreKept, bodies, frames_at}
use Rattle.capture_frame.specs.Frames.{frame_parser}
use Rattle.capture_frame.specs.Parts.{ParsedParts, frames_of_part, parts_read, joined_frames, last_of}
use Rattle.capture_frame.specs.ReadOn.{Parsed}
use Rattle.capture_frame.specs.Units.{placed, units_of}

-- what these parts come to, as far as the headers say
abbrev pub cut_of : List (List ℕ) → ParsedParts
cut_of parts = parts_read frame_parser None parts

-- these are the frames of the parts up to the first fault, each at its place in the joined capture, and that fault
abbrev pub CutsTo : List (List ℕ) → List PlacedFrame → Option PartFault → Type 0
CutsTo parts frames fault = (frames ≡ joined_frames (cut_of parts).frames) × (fault ≡ (cut_of parts).fault)

-- what holds when not all frames of the parts are given. If memory was refused, nothing is said. Otherwise this is the
-- first fault of the parts, and these are the frames before it.
abbrev pub IsPartCutOff : List (List ℕ) → PartCut → Type 0
IsPartCutOff parts part_cut.Memory = Unit {0}
IsPartCutOff parts (part_cut.Bad found before) = CutsTo parts before (Some found)

-- what these frames that were read say, and where each begins
abbrev pub shown_by : List Frame → List PlacedFrame
shown_by views = map placed_frame views

-- what holds when not all frames of a capture are given: the same, without the number of the part
abbrev pub IsCutOff : List ℕ → Cut → Type 0
IsCutOff capture cut.Memory = Unit {0}
IsCutOff capture (cut.Bad fault before) =
    CutsTo (capture ∷ []) (shown_by before.items) (Some (record { part = 1; fault = fault }))

-- parts of a capture, and the places of some frames in them
pub record Kept : Type 0 where
  pub parts : List PartBytes
  pub places : List ℕ

-- these parts with these places
abbrev pub kept : List PartBytes → List ℕ → Kept
kept parts places = record { parts = parts; places = places }

-- the frames at these places
abbrev pub frames_of : Kept → List PlacedFrame
frames_of list = frames_at (bodies list.parts) list.places

-- to the old frames these were added, the frames of one more part, whose bytes follow those of the parts before it
pub record AreAdded (old new : Kept) (frames : List FrameText) : Type 0 where
  pub are_kept : AreKept new.parts new.places
  pub added : frames_of new ≡ frames_of old ++ placed frame_width (file_header_length + length (bodies old.parts)) frames

-- what a part comes to, as far as the headers say
abbrev pub cut_of_part : Option ℕ → List ℕ → Parsed FrameText
cut_of_part before part = frames_of_part frame_parser before part

-- the frames of the part were added; it has no fault, and `last` is the last sequence so far
pub record IsPushed (part : List ℕ) (before last : Option ℕ) (old new : Kept) : Type 0 where
  pub good : (cut_of_part before part).fault ≡ None
  pub are_added : AreAdded old new (units_of (cut_of_part before part).units)
  pub longer : length (bodies new.parts) ≡ length (bodies old.parts) + (length part - file_header_length)
  pub last_is : last ≡ last_of before (units_of (cut_of_part before part).units)

-- the part has this first fault, and the frames before it were added
pub record IsPushedBefore (part : List ℕ) (before : Option ℕ) (old new : Kept) (fault : Fault) : Type 0 where
  pub first : (cut_of_part before part).fault ≡ Some fault
  pub are_added : AreAdded old new (units_of (cut_of_part before part).units)

-- what holds when not all frames of a part were added. If memory was refused, nothing is said. Otherwise the part has
-- this first fault, and the frames before it were added.
abbrev pub IsStopped : List ℕ → Option ℕ → Kept → Kept → Stopped → Type 0
IsStopped part before old new stopped.Memory = Unit {0}
IsStopped part before old new (stopped.Bad fault) = IsPushedBefore part before old new fault
