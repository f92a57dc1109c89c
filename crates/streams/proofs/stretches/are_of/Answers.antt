use Rattle.std.proofs.Common.{◌≡◌, take, refl, ap, subst, ◌∙◌, arith}
use Rattle.std.proofs.lemmas.Grind.{common_steps}
use Rattle.std.proofs.lemmas.List.Elements.{All-map, All-more}
use Rattle.streams.specs.Stretches.{IsPartOf}
use Rattle.streams.proofs.stretches.are_of.Goals as goal

pub loop-part-preserved : goal.loop-part-preserved
loop-part-preserved c =
    let here = subst (IsPartOf c.args.version) (c.as_slice.ensures.value ∙ ap (λ part. part.items) c.part-item.is) (c.if-not-is_of.ensures refl) in
    All-more (λ part. IsPartOf c.args.version part.items) c.args.parts.now c.loop-part.part-index c.part-item.result (omega (arith, c.loop-part-test.true))
    c.loop-part.invariant here

pub returns : goal.returns
returns c true =
    let all : take c.loop-part.part-index c.args.parts.now ≡ c.args.parts.now = grind (arith, common_steps) in
    All-map (IsPartOf c.args.version) (λ part. part.items) c.args.parts.now (rw all at c.loop-part.invariant)
