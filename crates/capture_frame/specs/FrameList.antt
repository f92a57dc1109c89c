-- The frames of a capture. Of each only the place is kept, and the frame is read again there (docs/ENVELOPE.md has the
-- fields).
use Rattle.std.specs.Prelude.{◌≡◌, ℕ, ◌+◌, ◌-◌, ◌<◌, ◌≤◌, ◌^◌, List, [], ◌∷◌, ◌++◌, length, drop, map, IsTrue, All, Contains}
use Rattle.std.specs.List.{flat_map}
use Rattle.capture_frame.specs.declared.frame_list.PartBytes.{PartBytes}
use Rattle.capture_frame.specs.Units.{placed_at}
use Rattle.capture_frame.specs.Envelope.{PlacedFrame, file_header_length}
use Rattle.capture_frame.specs.Frames.{frame_at_start, has_whole_frame}

-- the bytes after the file headers of these parts, one part after another
abbrev pub bodies : List PartBytes → List ℕ
bodies parts = flat_map (λ part. part.bytes.now) parts

-- the frames at these places of a capture that has these bytes after its file header
abbrev pub frames_at : List ℕ → List ℕ → List PlacedFrame
frames_at body places = map (λ place. placed_at place (frame_at_start (drop (place - file_header_length) body))) places

-- the parts follow one another, and the first begins at this place
abbrev pub AreInRow : ℕ → List PartBytes → Type 0
AreInRow place [] = Unit {0}
AreInRow place (part ∷ parts) = (part.start ≡ place) × AreInRow (place + length part.bytes.now) parts

-- a frame begins at this place, and all of it is in one of the parts
pub record HasFrameAt (parts : List PartBytes) (place : ℕ) : Type 0 where
  pub part : PartBytes
  pub there : Contains parts part
  pub from : part.start ≤ place
  pub whole : IsTrue (has_whole_frame (drop (place - part.start) part.bytes.now))

-- The parts follow one another, their places fit 64 bits, and a frame begins at each of these places. A list keeps this
-- so that its frames can be read again. Which frames they are, and that none is missing, `CutsTo` says.
pub record AreKept (parts : List PartBytes) (places : List ℕ) : Type 0 where
  pub in_row : AreInRow file_header_length parts
  pub fits : file_header_length + length (bodies parts) < 2 ^ 64
  pub frames : All (HasFrameAt parts) places

-- from this place on the capture has these bytes, and perhaps more after them; they begin with a whole frame
pub record AreBytesFrom (parts : List PartBytes) (place : ℕ) (bytes : List ℕ) : Type 0 where
  pub others : List ℕ
  pub are : drop (place - file_header_length) (bodies parts) ≡ bytes ++ others
  pub whole : IsTrue (has_whole_frame bytes)
  pub fits : place + length bytes < 2 ^ 64
