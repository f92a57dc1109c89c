use Rattle.std.proofs.Common.{List, take, take_all, sym, subst}
use Rattle.std.proofs.lemmas.List.{take_more}
use Rattle.listing_tables.specs.Pairing.{MarksEach}
use Rattle.listing_tables.specs.declared.fitting.Fit.{Fit}
use Rattle.listing_tables.proofs.PairLaws.{marks_more}
use Rattle.listing_tables.proofs.marks.mark_each.Goals as goal

pub loop-fit-preserved : goal.loop-fit-preserved
loop-fit-preserved c =
    let fits = c.args.fits.now in
    let i = c.loop-fit.fit-index in
    subst (λ (l : List Fit). MarksEach c.args.marks.now.all.items c.mark_also.new.marks.all.items l c.args.delivery)
    (sym (take_more fits i _ c.loop-fit-test.true))
    (marks_more c.args.marks.now.all.items c.loop-fit.marks.all.items c.mark_also.new.marks.all.items (take i fits) _ c.args.delivery
    c.loop-fit.invariant c.in_ok-mark_also.ensures)

pub returns : goal.returns
returns c =
    subst (λ (l : List Fit). MarksEach c.args.marks.now.all.items c.loop-fit.marks.all.items l c.args.delivery)
    (take_all c.loop-fit.fit-index c.args.fits.now c.loop-fit-test.false) c.loop-fit.invariant
