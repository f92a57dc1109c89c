use Rattle.std.proofs.Common.{sym, subst, refl, ◌∙◌}
use Rattle.std.specs.Prelude.{IsSome}
use Rattle.capture_frame.specs.Lookup.{IsFrameAt}
use Rattle.audit_judge.proofs.FaultLaws.{some_holds, fails_there, some_first}
use Rattle.audit_judge.proofs.piece_checks.fault_at.Goals as goal

pub unwrap-frame-requires : goal.unwrap-frame-requires
unwrap-frame-requires c = some_holds c.args.frames.now c.args.place c.frame_at.result _ refl c.requires.there c.frame_at.ensures

pub unwrap-requires : goal.unwrap-requires
unwrap-requires c =
    let at = subst (IsFrameAt c.args.frames.now c.args.place) c.unwrap-frame.ensures c.frame_at.ensures in
    let fails = fails_there c.args.frames.now c.args.place c.unwrap-frame.result _ refl c.requires.there at in
    subst IsSome (sym (c.check_frame.ensures ∙ fails)) (some_first _ c.args.place c.requires.there)

pub returns : goal.returns
returns c =
    let at = subst (IsFrameAt c.args.frames.now c.args.place) c.unwrap-frame.ensures c.frame_at.ensures in
    let fails = fails_there c.args.frames.now c.args.place c.unwrap-frame.result _ refl c.requires.there at in
    sym fails ∙ sym c.check_frame.ensures ∙ c.unwrap.ensures
