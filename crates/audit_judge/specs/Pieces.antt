-- Frames that are cut into pieces, which workers judge.
use Rattle.capture_frame.specs.Envelope.{PlacedFrame}
use Rattle.std.specs.Prelude.{◌≡◌, ℕ, ◌+◌, ◌<◌, ◌≤◌, List, length, All, slice_index_or}
use Rattle.std.specs.List.{flat_map}

-- the frames of all pieces, one piece after another
abbrev pub all_frames : List (List PlacedFrame) → List PlacedFrame
all_frames pieces = flat_map (λ piece. piece) pieces

-- the pieces are the frames, one piece after another; each piece has from 1 to n frames, and n if another piece follows
-- it
pub record ArePieces (n : ℕ) (frames : List PlacedFrame) (pieces : List (List PlacedFrame)) : Type 0 where
  pub joined : all_frames pieces ≡ frames
  pub sizes : All (λ piece. (1 ≤ length piece) × (length piece ≤ n)) pieces
  pub full : (i : ℕ) (d : List PlacedFrame) → i + 1 < length pieces → length (slice_index_or pieces i d) ≡ n
