use Rattle.std.proofs.Common.{arith, below_more}
use Rattle.std.proofs.lemmas.Option.{slice_get_within}
use Rattle.listing_tables.specs.Certainty.{IsOutOfQuestion}
use Rattle.listing_tables.proofs.CertaintyLaws.{next_fit}
use Rattle.listing_tables.proofs.fitting.are_out_of_question.Goals as goal

pub loop-fit-preserved : goal.loop-fit-preserved
loop-fit-preserved c =
    below_more _ _ c.loop-fit.invariant
    (next_fit (IsOutOfQuestion c.args.oneway c.args.only.now) c.args.fits.now c.loop-fit.fit-index _ c.if-not-is_out_of_question.ensures)

pub returns : goal.returns
returns c = λ fit h.
    let within = slice_get_within c.args.fits.now h.0 fit h.1 in
    let past = c.loop-fit-test.false in
    c.loop-fit.invariant h.0 (omega (arith, within, past)) fit h.1
