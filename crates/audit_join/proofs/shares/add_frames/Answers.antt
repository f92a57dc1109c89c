use Rattle.std.proofs.Common.{subst, arith}
use Rattle.std.proofs.lemmas.List.{take_all}
use Rattle.audit_join.specs.Shares.{SumsShare}
use Rattle.audit_join.proofs.SumLaws.{adds_next, can_add_next}
use Rattle.audit_join.proofs.shares.add_frames.Goals as goal

pub loop-number-init : goal.loop-number-init
loop-number-init c = c.requires.none

pub add-requires : goal.add-requires
add-requires c =
    can_add_next c.args.frames.now c.requires.good c.loop-number.number c.get.result c.get.ensures c.loop-number.summary c.loop-number.invariant

pub loop-number-preserved : goal.loop-number-preserved
loop-number-preserved c =
    adds_next c.args.frames.now c.requires.good c.loop-number.number c.get.result c.get.ensures c.loop-number.summary c.loop-number.invariant c.add.new.self
    c.in_ok-add.ensures

pub returns : goal.returns
returns c =
    let end = c.loop-number-test.false in
    let long = c.len-number-end.ensures in
    subst (SumsShare c.loop-number.summary) (take_all c.loop-number.number c.args.frames.now (omega (arith, end, long))) c.loop-number.invariant
