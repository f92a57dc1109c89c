use Rattle.std.proofs.Common.{List, take, take_all, sym, subst}
use Rattle.std.proofs.lemmas.List.{take_more}
use Rattle.listing_tables.specs.Decisions.{DoubtsEach}
use Rattle.listing_tables.specs.declared.fitting.Fit.{Fit}
use Rattle.listing_tables.proofs.DecisionLaws.{doubts_more}
use Rattle.listing_tables.proofs.pairs.doubt_each.Goals as goal

pub loop-fit-preserved : goal.loop-fit-preserved
loop-fit-preserved c =
    let fits = c.args.fits.now in
    let i = c.loop-fit.fit-index in
    subst (λ (l : List Fit). DoubtsEach c.args.waiting.now c.doubt.new.self l) (sym (take_more fits i _ c.loop-fit-test.true))
    (doubts_more c.args.waiting.now c.loop-fit.waiting c.doubt.new.self (take i fits) _ c.loop-fit.invariant c.in_ok-doubt.ensures.kept
    c.in_ok-doubt.ensures.counted)

pub returns : goal.returns
returns c =
    subst (λ (l : List Fit). DoubtsEach c.args.waiting.now c.loop-fit.waiting l)
    (take_all c.loop-fit.fit-index c.args.fits.now c.loop-fit-test.false) c.loop-fit.invariant
