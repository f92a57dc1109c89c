use Rattle.std.proofs.Common.{◌≡◌, ℕ, ◌≤◌, List, [], ◌∷◌, length, Some, refl, arith}
use Rattle.std.specs.Prelude.{slice_get}
use Rattle.capture_frame.specs.Envelope.{PlacedFrame}
use Rattle.audit_judge.specs.Jobs.{start_of}
use Rattle.audit_judge.proofs.piece_checks.start_of.Goals as goal

starts : (frames : List PlacedFrame) (place : ℕ) → 1 ≤ length frames → ((frame : PlacedFrame) → slice_get frames 0 ≡ Some frame → place ≡ frame.place)
    → place ≡ start_of frames
starts [] place some first = absurd (omega (arith, some))
starts (f ∷ frames) place some first = first f refl

pub returns : goal.returns
returns c = starts c.args.frames.now c.place.result c.requires c.place.ensures
