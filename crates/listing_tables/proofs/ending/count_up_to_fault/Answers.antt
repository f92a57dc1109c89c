use Rattle.std.proofs.Common.{◌≡◌, ◌-◌, true, None, is_some, All, take_all, get_or, sym, ap, subst, ◌∙◌, arith}
use Rattle.std.proofs.lemmas.List.Elements.{All-more, All-take}
use Rattle.std.proofs.lemmas.Option.{get_or_from_slice_get, slice_get_within}
use Rattle.capture_frame.specs.Envelope.{placed_frame}
use Rattle.transaction_view.specs.Grammar.{IsGood, content_fault}
use Rattle.listing_tables.proofs.WalkLaws.{all_good, no_fault, one_bad}
use Rattle.listing_tables.proofs.ending.count_up_to_fault.Goals as goal

pub returns-then-is_some-clause-counted : goal.returns-then-is_some-clause-counted
returns-then-is_some-clause-counted c =
    let frames = c.args.frames.now in
    let i = c.loop-number.number in
    let frame = placed_frame c.get.result in
    let is : get_or frames i frame ≡ frame = get_or_from_slice_get frames i frame frame c.get.ensures in
    let bad : is_some (content_fault (get_or frames i frame)) ≡ true
    = ap (λ f. is_some (content_fault f)) is ∙ ap is_some (sym c.check_frame.ensures) ∙ sym c.is_some.ensures ∙ c.if-is_some.true in
    one_bad frames i frame (slice_get_within frames i frame c.get.ensures) c.loop-number.invariant bad

pub loop-number-preserved : goal.loop-number-preserved
loop-number-preserved c =
    let frames = c.args.frames.now in
    let i = c.loop-number.number in
    let frame = placed_frame c.get.result in
    let is : get_or frames i frame ≡ frame = get_or_from_slice_get frames i frame frame c.get.ensures in
    let good : content_fault frame ≡ None
    = sym c.check_frame.ensures ∙ no_fault c.check_frame.result (sym c.is_some.ensures ∙ c.if-is_some.false) in
    All-more IsGood frames i frame (slice_get_within frames i frame c.get.ensures) c.loop-number.invariant (subst IsGood (sym is) good)

pub returns-clause-counted : goal.returns-clause-counted
returns-clause-counted c =
    let frames = c.args.frames.now in
    let past = c.loop-number-test.false in
    let end = c.loop-number.auto.number-end in
    let whole = take_all c.loop-number.number frames (omega (arith, past, end, c.len-number-end.ensures)) in
    take_all c.len.result frames (omega (arith, c.len.ensures)) ∙ all_good frames (subst (All IsGood) whole c.loop-number.invariant)

pub returns-clause-good : goal.returns-clause-good
returns-clause-good c =
    let frames = c.args.frames.now in
    let past = c.loop-number-test.false in
    let end = c.loop-number.auto.number-end in
    let whole = take_all c.loop-number.number frames (omega (arith, past, end, c.len-number-end.ensures)) in
    All-take IsGood (c.len.result - 1) frames (subst (All IsGood) whole c.loop-number.invariant)
