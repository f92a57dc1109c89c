use Rattle.std.proofs.Common.{arith}
use Rattle.std.proofs.lemmas.Option.{slice_get_within}
use Rattle.listing_tables.proofs.fitting.are_all_of.Goals as goal

pub returns : goal.returns
returns c = λ fit h.
    let within = slice_get_within c.args.fits.now h.0 fit h.1 in
    let past = c.loop-fit-test.false in
    c.loop-fit.invariant h.0 (omega (arith, within, past)) fit h.1
