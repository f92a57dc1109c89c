-- The jobs that pieces of frames are.
use Rattle.std.proofs.Common.{◌≡◌, ℕ, ◌<◌, ◌*◌, ◌^◌, List, length, map, get_or, arith}
use Rattle.std.proofs.lemmas.List.{get_or-map, length-map}
use Rattle.capture_frame.specs.Envelope.{PlacedFrame}
use Rattle.claim_board.specs.Running.{job_at}
use Rattle.audit_judge.specs.Jobs.{AreJobPieces, job_of}

pub within_pieces : (pieces : List (List PlacedFrame)) (i : ℕ) → i < length (map job_of pieces) → i < length pieces
within_pieces pieces i within = let long = length-map pieces job_of in omega (arith, within, long)

-- the job with a number is that of the piece with this number
pub job_here : (pieces : List (List PlacedFrame)) (i : ℕ) (d : List PlacedFrame) → i < length pieces
    → job_at (map job_of pieces) i ≡ job_of (get_or pieces i d)
job_here pieces i d within = get_or-map job_of pieces i d _ within

-- the number of a piece times the size of a slice of frames fits a word
pub number_fits : (pieces : List (List PlacedFrame)) → AreJobPieces pieces → (i : ℕ) → i < length pieces → i * 32 < 2 ^ 64
number_fits pieces can i inside = let few = can.few in omega (arith, few, inside)
