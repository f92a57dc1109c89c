use Rattle.std.proofs.Common.{◌≡◌, ◌+◌, List, sym, subst, arith, None, Some}
use Rattle.std.proofs.lemmas.Option.{slice_get-get_or}
use Rattle.listing_tables.specs.Guesses.{IsGuess}
use Rattle.listing_tables.specs.declared.fitting.Fit.{Fit}
use Rattle.listing_tables.proofs.GuessLaws.{GuessSoFar, guess_more, guess_of_all}
use Rattle.listing_tables.proofs.fitting.Fitting.best.Goals as goal

none_is : (it : Fit) → None ≡ Some it → ⊥
none_is it e = cc

pub loop-fit-init : goal.loop-fit-init
loop-fit-init c = record { is = λ it e. absurd (none_is it e); first = λ at l. absurd (omega (arith, l)) }

pub loop-fit-preserved : goal.loop-fit-preserved
loop-fit-preserved c =
    let oneway = c.args.oneway in
    let fits = c.deref-fit-items.result.now in
    let value = c.deref-fit-items.ensures.value in
    let i = c.loop-fit.fit-index in
    subst (λ (l : List Fit). GuessSoFar oneway l (i + 1) c.best_of-best.result) value
    (guess_more oneway fits i c.loop-fit.best c.best_of-best.result _ (slice_get-get_or fits i _ c.loop-fit-test.true)
    c.best_of-best.ensures (subst (λ (l : List Fit). GuessSoFar oneway l i c.loop-fit.best) (sym value) c.loop-fit.invariant))

pub returns : goal.returns
returns c =
    let oneway = c.args.oneway in
    let fits = c.deref-fit-items.result.now in
    let value = c.deref-fit-items.ensures.value in
    let i = c.loop-fit.fit-index in
    subst (λ (l : List Fit). IsGuess oneway l c.loop-fit.best) value
    (guess_of_all oneway fits i c.loop-fit.best c.loop-fit-test.false
    (subst (λ (l : List Fit). GuessSoFar oneway l i c.loop-fit.best) (sym value) c.loop-fit.invariant))
