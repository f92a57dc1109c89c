use Rattle.std.proofs.Common.{List, take, take_all, sym, subst}
use Rattle.std.proofs.lemmas.List.{take_more}
use Rattle.listing_tables.specs.Meanings.{LearnsEach}
use Rattle.listing_tables.specs.declared.handed.Handed.{Handed}
use Rattle.listing_tables.proofs.MeaningLaws.{learns_more}
use Rattle.listing_tables.proofs.learning.learn_each.Goals as goal

pub loop-one-preserved : goal.loop-one-preserved
loop-one-preserved c =
    let objects = c.args.objects.now in
    let i = c.loop-one.one-index in
    subst (λ (l : List Handed). LearnsEach c.args.meanings.now c.learn_one.new.meanings l c.args.before c.args.others.now c.args.after)
    (sym (take_more objects i _ c.loop-one-test.true))
    (learns_more c.args.meanings.now c.loop-one.meanings c.learn_one.new.meanings (take i objects) _ c.args.before c.args.others.now
    c.args.after c.loop-one.invariant c.in_ok-learn_one.ensures)

pub returns : goal.returns
returns c =
    subst (λ (l : List Handed). LearnsEach c.args.meanings.now c.loop-one.meanings l c.args.before c.args.others.now c.args.after)
    (take_all c.loop-one.one-index c.args.objects.now c.loop-one-test.false) c.loop-one.invariant
