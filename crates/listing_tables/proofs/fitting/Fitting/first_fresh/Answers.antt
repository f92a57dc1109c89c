use Rattle.std.proofs.Common.{◌≡◌, ◌+◌, List, sym, subst, arith, None, Some}
use Rattle.std.proofs.lemmas.Option.{slice_get-get_or}
use Rattle.listing_tables.specs.OneHandle.{IsFirstFresh}
use Rattle.listing_tables.specs.declared.fitting.Fit.{Fit}
use Rattle.listing_tables.proofs.FreshLaws.{FirstSoFar, first_more, first_of_all}
use Rattle.listing_tables.proofs.fitting.Fitting.first_fresh.Goals as goal

none_is : (it : Fit) → None ≡ Some it → ⊥
none_is it e = cc

pub loop-fit-init : goal.loop-fit-init
loop-fit-init c = record { is = λ it e. absurd (none_is it e); first = λ at l. absurd (omega (arith, l)) }

pub loop-fit-preserved : goal.loop-fit-preserved
loop-fit-preserved c =
    let fits = c.deref-fit-items.result.now in
    let value = c.deref-fit-items.ensures.value in
    let i = c.loop-fit.fit-index in
    subst (λ (l : List Fit). FirstSoFar l (i + 1) c.first_of-first.result) value
    (first_more fits i c.loop-fit.first c.first_of-first.result _ (slice_get-get_or fits i _ c.loop-fit-test.true) c.first_of-first.ensures
    (subst (λ (l : List Fit). FirstSoFar l i c.loop-fit.first) (sym value) c.loop-fit.invariant))

pub returns : goal.returns
returns c =
    let fits = c.deref-fit-items.result.now in
    let value = c.deref-fit-items.ensures.value in
    let i = c.loop-fit.fit-index in
    subst (λ (l : List Fit). IsFirstFresh l c.loop-fit.first) value
    (first_of_all fits i c.loop-fit.first c.loop-fit-test.false
    (subst (λ (l : List Fit). FirstSoFar l i c.loop-fit.first) (sym value) c.loop-fit.invariant))
