-- Which of some frames, each of which ends before the next begins, a byte belongs to.
use Rattle.std.proofs.Common.{◌≡◌, ℕ, List, Option, Some, None, refl}
use Rattle.std.specs.Prelude.{Contains, IsSome}
use Rattle.std.proofs.lemmas.List.Elements.{All-contains}
use Rattle.capture_frame.specs.declared.frame.Frame.{Frame}
use Rattle.capture_frame.specs.Envelope.{PlacedFrame, placed_frame}
use Rattle.capture_frame.specs.Lookup.{Holds, IsFrameAt}

-- two frames that the same byte belongs to are the same
pub one_held : (frames : List PlacedFrame) (place : ℕ) (found : Frame) (other : PlacedFrame) → IsFrameAt frames place (Some found)
    → Contains frames other → Holds place other → other ≡ placed_frame found
one_held frames place found other is there holds =
    All-contains (λ (f : PlacedFrame). Holds place f → f ≡ placed_frame found) frames other is.2 there holds

-- where a byte belongs to some frame, a frame is found
pub some_held : (frames : List PlacedFrame) (place : ℕ) (result : Option Frame) (other : PlacedFrame) → IsFrameAt frames place result
    → Contains frames other → Holds place other → IsSome result
some_held frames place None other is there holds =
    absurd (All-contains (λ (f : PlacedFrame). ¬ Holds place f) frames other is there holds)
some_held frames place (Some found) other is there holds = refl
