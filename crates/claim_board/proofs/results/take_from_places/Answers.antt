use Rattle.std.proofs.Common.{rules, ◌≡◌, ◌∙◌, ◌<◌, ◌+◌, ◌++◌, ◌∷◌, [], ap, sym, subst, arith, length, set, slice_get, Some}
use Rattle.std.proofs.lemmas.Option.{get_or_from_slice_get}
use Rattle.claim_board.specs.Results.{AreTaken}
use Rattle.claim_board.proofs.Filling.{takes}
use Rattle.claim_board.proofs.results.take_from_places.Goals as goal

pub unreachable-requires : goal.unreachable-requires
unreachable-requires g c =
    let p = c.index_mut.result.now in
    let i = c.loop-i.i in
    let lt : i < length (g.W.Work.listed c.args.work.now) = omega (arith, c.loop-i-test.true) in
    let t = c.loop-i.invariant.taken i (omega arith) lt in
    c.in_default.not-Some t.0 (c.take.ensures.value ∙ (c.index_mut.ensures.value ∙ get_or_from_slice_get c.loop-i.places.items i (Some t.0) p t.1))

pub loop-i-preserved : goal.loop-i-preserved
loop-i-preserved g c =
    let gives = g.W.Work.gives c.args.work.now in
    let n = length (g.W.Work.listed c.args.work.now) in
    let p = c.index_mut.result.now in
    let i = c.loop-i.i in
    let old = c.loop-i.places.items in
    let lt : i < length (g.W.Work.listed c.args.work.now) = omega (arith, c.loop-i-test.true) in
    let t = c.loop-i.invariant.taken i (omega arith) lt in
    let is : p ≡ Some t.0 = c.index_mut.ensures.value ∙ get_or_from_slice_get old i (Some t.0) p t.1 in
    let out : Some c.in-Some.out ≡ Some t.0 = sym c.in-Some.is ∙ (c.take.ensures.value ∙ is) in
    let here : slice_get old i ≡ Some (Some c.in-Some.out) = t.1 ∙ ap (λ q. Some q) (sym out) in
    let done = takes gives n i old c.loop-i.all.items c.in-Some.out lt here c.loop-i.invariant in
    subst (λ l. AreTaken gives n (i + 1) (set old i c.take.new.self) l) (search rules)
    (subst (λ q. AreTaken gives n (i + 1) (set old i q) (c.loop-i.all.items ++ c.in-Some.out ∷ [])) (sym c.take.ensures.after) done)

pub returns : goal.returns
returns c = search rules
