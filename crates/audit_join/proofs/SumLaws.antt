-- Shares of frames that are summed, and joined in order.
use Rattle.std.proofs.Common.{◌≡◌, ℕ, ◌+◌, List, [], ◌∷◌, ◌++◌, take, drop, Some, sym, ap, ap₂, subst, ◌∙◌}
use Rattle.std.specs.Prelude.{slice_get}
use Rattle.std.proofs.lemmas.List.{map-append, take-append-drop}
use Rattle.capture_frame.specs.Cut.{shown_by}
use Rattle.capture_frame.specs.Envelope.{PlacedFrame, placed_frame}
use Rattle.capture_frame.specs.declared.frame.Frame.{Frame}
use Rattle.summary_law.specs.Summary.{Adds, CanAdd, CanJoin, Joins}
use Rattle.audit_findings.specs.Frames.{AreGoodFrames, good_frames_halves}
use Rattle.audit_findings.specs.Summary.{SumsPiece}
use Rattle.audit_findings.specs.declared.piece_summary.PieceSummary.{PieceSummary}
use Rattle.audit_judge.specs.Jobs.{AreCut, AreSound}
use Rattle.audit_judge.proofs.FaultLaws.{first_more}
use Rattle.audit_join.specs.Shares.{SumsShare}

-- frames as they are cut, if their records and entries have no fault, are good frames
pub good_cut : (frames : List PlacedFrame) → AreCut frames → AreSound frames → AreGoodFrames frames
good_cut frames cut sound = record { few = cut.few; good = sound; apart = cut.apart }

-- good frames that are split at a number are good on both sides
pub good_sides : (frames : List PlacedFrame) (n : ℕ) → AreGoodFrames frames → AreGoodFrames (take n frames) × AreGoodFrames (drop n frames)
good_sides frames n good = good_frames_halves (take n frames) (drop n frames) (subst AreGoodFrames (sym (take-append-drop n frames)) good)

-- the summary sums the frames that these views show
abbrev SumsShown : PieceSummary → List Frame → Type 0
SumsShown summary views = SumsPiece summary (shown_by views)

abbrev AreGoodShown : List Frame → Type 0
AreGoodShown views = AreGoodFrames (shown_by views)

-- ---- one more frame

-- the views with one more, and the frames that they show
shown_more : (frames : List PlacedFrame) (n : ℕ) (views : List Frame) (found : Frame) → shown_by views ≡ take n frames
    → slice_get frames n ≡ Some (placed_frame found) → shown_by (views ++ found ∷ []) ≡ take (n + 1) frames
shown_more frames n views found shown there =
    map-append placed_frame views (found ∷ [])
    ∙ ap (λ (l : List PlacedFrame). l ++ placed_frame found ∷ []) shown
    ∙ sym (first_more frames n (placed_frame found) there)

module _ (frames : List PlacedFrame) (good : AreGoodFrames frames) (n : ℕ) (found : Frame) (there : slice_get frames n ≡ Some (placed_frame found))
    (summary : PieceSummary) (so_far : SumsShare summary (take n frames)) where
  good_more : AreGoodShown (so_far.0 ++ found ∷ [])
  good_more = subst AreGoodFrames (sym (shown_more frames n so_far.0 found so_far.1 there)) (good_sides frames (n + 1) good).0

  sums_so_far : SumsShown summary so_far.0
  sums_so_far = subst (SumsPiece summary) (sym so_far.1) so_far.2

  pub can_add_next : CanAdd SumsShown AreGoodShown summary found
  can_add_next = (so_far.0, sums_so_far, good_more)

  pub adds_next : (new : PieceSummary) → Adds SumsShown AreGoodShown summary found new → SumsShare new (take (n + 1) frames)
  adds_next new adds =
      let more = shown_more frames n so_far.0 found so_far.1 there in
      (so_far.0 ++ found ∷ [], more, subst (SumsPiece new) more (adds so_far.0 sums_so_far good_more))

-- ---- two shares

module _ (frames first_frames later_frames : List PlacedFrame) (halves : first_frames ++ later_frames ≡ frames) (good : AreGoodFrames frames)
    (first second : PieceSummary) (front : SumsShare first first_frames) (back : SumsShare second later_frames) where
  both : shown_by (front.0 ++ back.0) ≡ frames
  both = map-append placed_frame front.0 back.0 ∙ ap₂ (λ (x y : List PlacedFrame). x ++ y) front.1 back.1 ∙ halves

  good_both : AreGoodShown (front.0 ++ back.0)
  good_both = subst AreGoodFrames (sym both) good

  pub can_join_shares : CanJoin SumsShown AreGoodShown first second
  can_join_shares =
      (front.0, back.0, subst (SumsPiece first) (sym front.1) front.2, subst (SumsPiece second) (sym back.1) back.2, good_both)

  pub shares_joined : (joined : PieceSummary) → Joins SumsShown AreGoodShown first second joined → SumsShare joined frames
  shares_joined joined joins = (
    front.0 ++ back.0,
    both,
    subst (SumsPiece joined) both
        (joins front.0 back.0 (subst (SumsPiece first) (sym front.1) front.2) (subst (SumsPiece second) (sym back.1) back.2) good_both),
  )
