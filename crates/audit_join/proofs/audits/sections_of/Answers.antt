use Rattle.std.proofs.Common.{sym, ap, subst, ◌∙◌}
use Rattle.std.proofs.lemmas.Result.{IfOk-weaker}
use Rattle.audit_findings.specs.Frames.{AreGoodFrames}
use Rattle.audit_findings.specs.Kept.{AreSectionsOf}
use Rattle.audit_findings.proofs.HandleRows.{lists_of}
use Rattle.audit_join.proofs.SumLaws.{good_cut}
use Rattle.audit_join.proofs.audits.sections_of.Goals as goal

pub sum_shares-requires-after_bounds : goal.sum_shares-requires-after_bounds
sum_shares-requires-after_bounds g c κs within = good_cut c.args.frames.now c.requires.cut c.requires.sound

pub of-requires-clause-good : goal.of-requires-clause-good
of-requires-clause-good g c = good_cut c.args.frames.now c.requires.cut c.requires.sound

pub of-requires-clause-sums : goal.of-requires-clause-sums
of-requires-clause-sums g c = c.in_ok-whole.ensures.2

pub look_again-requires-after_bounds : goal.look_again-requires-after_bounds
look_again-requires-after_bounds g c κs within =
    subst AreGoodFrames (sym c.in_ok-look.ensures) (good_cut c.args.frames.now c.requires.cut c.requires.sound)

pub returns-in-Ok : goal.returns-in-Ok
returns-in-Ok g c =
    IfOk-weaker c.sections.result _ _
    (λ sections gives.
    subst (λ frames. AreSectionsOf frames sections) c.in_ok-look.ensures (gives (ap lists_of c.as_slice.ensures.value ∙ c.in-Ok.ensures)))
    c.sections.ensures
