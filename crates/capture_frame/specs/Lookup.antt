-- Which frame of a capture a byte belongs to.
use Rattle.std.specs.Prelude.{◌≡◌, ℕ, ◌+◌, ◌<◌, ◌≤◌, List, length, slice_index_or, All, Contains, Option, Some, None}
use Rattle.capture_frame.specs.declared.frame.Frame.{Frame}
use Rattle.capture_frame.specs.Envelope.{PlacedFrame, frame_width, placed_frame}

-- how many bytes of the capture a frame takes: its header, its command bytes and its attachment bytes
abbrev pub span_of : PlacedFrame → ℕ
span_of frame = frame_width frame.unit

-- the earlier frame ends before the later one begins
abbrev pub AreApart : PlacedFrame → PlacedFrame → Type 0
AreApart earlier later = earlier.place + span_of earlier ≤ later.place

-- the byte at this place belongs to the frame
abbrev pub Holds : ℕ → PlacedFrame → Type 0
Holds place frame = (frame.place ≤ place) × (place < frame.place + span_of frame)

-- the result is the one frame that the byte at this place belongs to; or it is None, and the byte belongs to no frame
abbrev pub IsFrameAt : List PlacedFrame → ℕ → Option Frame → Type 0
IsFrameAt frames place (Some found) =
    Contains frames (placed_frame found) × Holds place (placed_frame found)
    × All (λ other. Holds place other → other ≡ placed_frame found) frames
IsFrameAt frames place None = All (λ frame. ¬ Holds place frame) frames

-- the first n of these frames begin at this place or before it, and the others after it
pub record IsSplitAt (frames : List PlacedFrame) (place n : ℕ) : Type 0 where
  pub within : n ≤ length frames
  pub before : (i : ℕ) (d : PlacedFrame) → i < n → (slice_index_or frames i d).place ≤ place
  pub after : (i : ℕ) (d : PlacedFrame) → n ≤ i → i < length frames → place < (slice_index_or frames i d).place
