use Rattle.std.proofs.Common.{◌++◌, sym, subst, ◌∙◌, ap₂, List}
use Rattle.std.proofs.lemmas.List.{take-append-drop}
use Rattle.capture_frame.specs.Envelope.{PlacedFrame}
use Rattle.audit_findings.specs.Frames.{AreGoodFrames}
use Rattle.audit_join.proofs.SumLaws.{good_sides}
use Rattle.audit_join.proofs.shares.FrameSliceShare.halves.Goals as goal

pub returns : goal.returns
returns c =
    let good = good_sides c.args.self.now c.middle.result c.requires in
    let cut = c.split_at.ensures in (
      subst AreGoodFrames (sym cut.front) good.0,
      subst AreGoodFrames (sym cut.back) good.1,
      ap₂ (λ (x y : List PlacedFrame). x ++ y) cut.front cut.back ∙ take-append-drop c.middle.result c.args.self.now,
    )
