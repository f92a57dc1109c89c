use Rattle.std.proofs.Common.{◌≡◌, sym, subst, None, arith}
use Rattle.std.proofs.lemmas.List.{take_all}
use Rattle.transaction_view.specs.Grammar.{first_content_fault}
use Rattle.audit_judge.proofs.FaultLaws.{first_at, none_more}
use Rattle.audit_judge.proofs.piece_checks.first_in.Goals as goal

pub returns-in-Some : goal.returns-in-Some
returns-in-Some c =
    sym (first_at c.args.frames.now c.loop-number.number _ c.in-Some.fault c.get.ensures c.loop-number.invariant (sym c.in-Some.ensures))

pub loop-number-preserved : goal.loop-number-preserved
loop-number-preserved c =
    none_more c.args.frames.now c.loop-number.number _ c.get.ensures c.loop-number.invariant (sym c.in_default.ensures)

pub returns : goal.returns
returns c =
    let end = c.loop-number-test.false in
    let long = c.len-number-end.ensures in
    sym (subst (λ fs. first_content_fault fs ≡ None) (take_all c.loop-number.number c.args.frames.now (omega (arith, end, long))) c.loop-number.invariant)
