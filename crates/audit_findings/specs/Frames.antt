-- Frames that can be summed.
use Rattle.std.specs.Prelude.{◌≤◌, ◌^◌, List, All, AllPairs}
use Rattle.std.specs.List.{sum_by}
use Rattle.capture_frame.specs.Envelope.{placed_frame, PlacedFrame}
use Rattle.capture_frame.specs.Cut.{shown_by}
use Rattle.capture_frame.specs.Lookup.{span_of, AreApart}
use Rattle.transaction_view.specs.Grammar.{IsGood}
use Rattle.summary_law.specs.Fits.{all_halves, pairs_halves}
use Rattle.summary_law.specs.Summary.{FitsInHalves}
use Rattle.std.proofs.Common.{arith, subst}
use Rattle.std.proofs.lemmas.List.{map-append}
use Rattle.std.proofs.lemmas.List.Sums.{sum_by-append}

-- good frames: their records and entries have no fault, each frame ends before every later one begins, and together
-- they have at most 2^32 bytes
pub record AreGoodFrames (frames : List PlacedFrame) : Type 0 where
  pub few : sum_by span_of frames ≤ 2 ^ 32
  pub good : All IsGood frames
  pub apart : AllPairs AreApart frames

-- both halves of a list of good frames are good
pub good_frames_halves : FitsInHalves AreGoodFrames
good_frames_halves first second fit =
    let good = all_halves IsGood first second fit.good in
    let apart = pairs_halves AreApart first second fit.apart in
    let parts = sum_by-append span_of first second in
    let few = fit.few in (
      record { few = omega (arith, parts, few); good = good.0; apart = apart.0 },
      record { few = omega (arith, parts, few); good = good.1; apart = apart.1 },
    )

-- both halves of a list of views of good frames are views of good frames
pub good_views_halves : FitsInHalves (λ views. AreGoodFrames (shown_by views))
good_views_halves first second fit =
    good_frames_halves (shown_by first) (shown_by second) (subst AreGoodFrames (map-append placed_frame first second) fit)
