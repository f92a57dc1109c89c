-- The jobs that pieces of frames are: each starts at its first frame, and has the place of its first fault.
use Rattle.std.specs.Prelude.{ℕ, ◌+◌, ◌≤◌, ◌^◌, List, [], ◌∷◌, length, All, AllPairs, Option}
use Rattle.std.specs.List.{sum_by}
use Rattle.std.specs.Option.{option_map}
use Rattle.capture_frame.specs.Envelope.{PlacedFrame}
use Rattle.capture_frame.specs.Lookup.{span_of, AreApart}
use Rattle.transaction_view.specs.Grammar.{IsGood, first_content_fault}
use Rattle.claim_board.specs.declared.job.Job.{Job}

-- the records and entries of these frames have no fault
abbrev pub AreSound : List PlacedFrame → Type 0
AreSound frames = All IsGood frames

-- the frame ends at most 2^32 bytes from the beginning of the capture
abbrev pub EndsNear : PlacedFrame → Type 0
EndsNear frame = frame.place + span_of frame ≤ 2 ^ 32

-- frames as they are cut from a capture: they have at most 2^32 bytes together, none of them ends more than 2^32 bytes
-- from the beginning, and each ends before every later one begins
pub record AreCut (frames : List PlacedFrame) : Type 0 where
  pub few : sum_by span_of frames ≤ 2 ^ 32
  pub apart : AllPairs AreApart frames
  pub near : All EndsNear frames

-- where the first of these frames begins
abbrev pub start_of : List PlacedFrame → ℕ
start_of [] = 0
start_of (frame ∷ frames) = frame.place

-- where the first fault of the content of these frames is
abbrev pub first_place : List PlacedFrame → Option ℕ
first_place frames = option_map (λ fault. fault.place) (first_content_fault frames)

-- the job to find the first fault of these frames
abbrev pub job_of : List PlacedFrame → Job
job_of frames = record { start = start_of frames; fault = first_place frames }

-- at most 2^32 pieces, each of at least one frame, and cut from a capture
pub record AreJobPieces (pieces : List (List PlacedFrame)) : Type 0 where
  pub few : length pieces ≤ 2 ^ 32
  pub some : All (λ piece. 1 ≤ length piece) pieces
  pub cut : All AreCut pieces
