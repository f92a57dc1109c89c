use Rattle.std.proofs.Common.{sym, ap, ◌∙◌, drop}
use Rattle.capture_frame.specs.Envelope.{FrameText, in_version}
use Rattle.capture_frame.specs.Parts.{frames_if, last_of}
use Rattle.capture_frame.specs.ReadOn.{Parsed}
use Rattle.capture_frame.specs.Units.{units_of}
use Rattle.transaction_view.specs.Grammar.{whole_parser}
use Rattle.transaction_view.proofs.WholeLaws.{judged, whole_judged}
use Rattle.transaction_view.proofs.check.check_part.Goals as goal

pub loop-frame-init : goal.loop-frame-init
loop-frame-init c =
    let part = c.args.part.now in
    let before = c.args.before in
    let header = c.in_ok-frames.ensures in
    let is = ap (frames_if whole_parser before part) header.1 ∙ whole_judged (in_version header.0 before) 16 (drop 16 part) ∙ ap judged (sym header.2) in
    (ap (λ (found : Parsed FrameText). found.fault) is, ap (λ (found : Parsed FrameText). last_of before (units_of found.units)) is)
