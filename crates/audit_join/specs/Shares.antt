-- The shares of frames that workers sum. That the frames are good, `SumsPiece` does not say: `AreGoodFrames` does.
use Rattle.std.specs.Prelude.{◌≡◌, List, ◌++◌}
use Rattle.capture_frame.specs.Cut.{shown_by}
use Rattle.capture_frame.specs.Envelope.{PlacedFrame}
use Rattle.capture_frame.specs.declared.frame.Frame.{Frame}
use Rattle.audit_findings.specs.Summary.{SumsPiece}
use Rattle.audit_findings.specs.declared.piece_summary.PieceSummary.{PieceSummary}

-- the summary sums these frames, which were added one by one
abbrev pub SumsShare : PieceSummary → List PlacedFrame → Type 0
SumsShare summary frames = (views : List Frame) × (shown_by views ≡ frames) × SumsPiece summary frames

-- the frames are the first half, followed by the later one
abbrev pub AreHalves : List PlacedFrame → List PlacedFrame → List PlacedFrame → Type 0
AreHalves frames first later = first ++ later ≡ frames
