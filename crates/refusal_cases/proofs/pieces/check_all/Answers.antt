use Rattle.std.proofs.Common.{◌≡◌, None, sym, subst, arith}
use Rattle.std.proofs.lemmas.List.{take_all}
use Rattle.transaction_view.specs.Grammar.{first_content_fault}
use Rattle.audit_judge.proofs.FaultLaws.{none_more, sound_of}
use Rattle.refusal_cases.proofs.pieces.check_all.Goals as goal

pub loop-number-preserved : goal.loop-number-preserved
loop-number-preserved c =
    none_more c.args.frames.now c.loop-number.number _ c.get.ensures c.loop-number.invariant (sym c.in_default.ensures)

pub returns : goal.returns
returns c =
    let end = c.loop-number-test.false in
    let long = c.len-number-end.ensures in
    sound_of c.args.frames.now
    (subst (λ fs. first_content_fault fs ≡ None) (take_all c.loop-number.number c.args.frames.now (omega (arith, end, long))) c.loop-number.invariant)
