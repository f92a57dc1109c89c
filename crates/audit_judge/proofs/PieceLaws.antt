-- Frames that are cut into pieces, one after another.
use Rattle.std.specs.Prelude.{◌≡◌, ℕ, ◌+◌, ◌<◌, ◌≤◌, List, ◌++◌, length, All, slice_index_or}
use Rattle.capture_frame.specs.Envelope.{PlacedFrame}
use Rattle.audit_judge.specs.Pieces.{all_frames}

-- the pieces are the frames before those that are left; as long as some are left, each piece has n frames
pub record ArePiecesBefore (n : ℕ) (frames : List PlacedFrame) (pieces : List (List PlacedFrame)) (left : List PlacedFrame) : Type 0 where
  pub joined : all_frames pieces ++ left ≡ frames
  pub sizes : All (λ piece. (1 ≤ length piece) × (length piece ≤ n)) pieces
  pub whole : 0 < length left → All (λ piece. length piece ≡ n) pieces
  pub full : (i : ℕ) (d : List PlacedFrame) → i + 1 < length pieces → length (slice_index_or pieces i d) ≡ n
