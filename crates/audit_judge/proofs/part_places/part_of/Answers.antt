use Rattle.std.proofs.Common.{◌+◌, ◌-◌, ℕ, [], ap, refl, sym, subst, ◌∙◌, arith}
use Rattle.std.proofs.lemmas.List.{drop_all}
use Rattle.capture_frame.specs.declared.fault.PartFault.{PartFault}
use Rattle.capture_frame.specs.Tests.{fault_at}
use Rattle.audit_judge.proofs.PlaceLaws.{IsLeft, left_next, none_passed, part_found, some_left}
use Rattle.audit_judge.proofs.part_places.part_of.Goals as goal

pub loop-part-init : goal.loop-part-init
loop-part-init c = (none_passed c.args.parts.now c.args.fault c.requires.there, refl)

pub returns-then-place-length : goal.returns-then-place-length
returns-then-place-length c =
    let made : ℕ → PartFault = λ n. record { part = n + 1; fault = fault_at c.args.fault.kind c.loop-part.place } in
    ap made c.loop-part.invariant.1
    ∙ part_found c.args.parts.now c.loop-part.part-index _ c.args.fault c.loop-part.place c.loop-part-test.true
    c.loop-part.invariant.0 c.if-place-length.true

pub loop-part-preserved : goal.loop-part-preserved
loop-part-preserved c =
    let long = c.if-place-length.false in
    let less = c.saturating_sub-place.ensures in (
      subst (λ (n : ℕ). IsLeft c.args.parts.now (c.loop-part.part-index + 1) c.args.fault (c.loop-part.place - n)) (sym less)
          (left_next c.args.parts.now c.loop-part.part-index (record { ref_ptr = (0, 0); now = [] }) c.args.fault c.loop-part.place c.loop-part-test.true
          c.loop-part.invariant.0 (omega (arith, long))),
      ap (λ (n : ℕ). n + 1) c.loop-part.invariant.1,
    )

pub unreachable-requires : goal.unreachable-requires
unreachable-requires c =
    let end = c.loop-part-test.false in
    some_left c.args.parts.now c.loop-part.part-index c.args.fault c.loop-part.place (drop_all c.loop-part.part-index c.args.parts.now end)
    c.loop-part.invariant.0
