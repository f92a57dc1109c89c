use Rattle.std.proofs.Common.{◌≡◌, true, false, not, [], ◌∷◌, ◌++◌, is_some, refl, sym, ap, subst, ◌∙◌}
use Rattle.std.proofs.lemmas.List.{append-nil, map-append}
use Rattle.capture_frame.specs.declared.process.Thread.{Thread}
use Rattle.capture_frame.specs.Envelope.{placed_frame}
use Rattle.event_core.specs.Brackets.{mark_of}
use Rattle.listing_tables.specs.declared.calls.CallStep.{CallStep}
use Rattle.listing_tables.specs.Steps.{KeepsAll, kept_of}
use Rattle.listing_tables.proofs.StepLaws.{is_unmarked, kept_is}
use Rattle.listing_tables.proofs.steps.add_step.Goals as goal

pub returns-then-is_none : goal.returns-then-is_none
returns-then-is_none c = λ marked kept.
    let kind = c.args.record.kind in
    let none : is_some (mark_of kind c.is_oneway-oneway.result) ≡ false
    = ap is_some (sym c.mark_of.ensures) ∙ c.is_none.ensures ∙ ap not c.if-is_none.true in
    let unmarked = is_unmarked (placed_frame c.args.frame) c.args.record
    (ap (λ o. is_some (mark_of kind o)) (sym c.is_oneway-oneway.ensures) ∙ none) in
    subst (KeepsAll c.args.steps.now.entries.entries) (sym (ap (λ l. marked ++ l) unmarked ∙ append-nil marked)) kept

pub add-requires : goal.add-requires
add-requires c = let kept = c.requires.1 in (kept.items, kept.sums, λ thread. tt)

pub returns : goal.returns
returns c = λ marked kept.
    let kind = c.args.record.kind in
    let some : is_some (mark_of kind c.is_oneway-oneway.result) ≡ true
    = ap is_some (sym c.mark_of.ensures) ∙ c.is_none.ensures ∙ ap not c.if-is_none.false in
    let step : CallStep = record { place = c.in_ok-narrow.field-0; before = c.args.before; kind = kind; oneway = c.is_oneway-oneway.result } in
    let item : Thread × CallStep = (c.thread_of.result, step) in
    let is = kept_is (placed_frame c.args.frame) c.args.record c.thread_of.result step c.thread_of.ensures c.in_ok-narrow.ensures refl
    c.is_oneway-oneway.ensures some in
    record {
      items = kept.items ++ item ∷ [];
      sums = c.in_ok-add.ensures kept.items kept.sums (λ thread. tt);
      are = map-append kept_of kept.items (item ∷ []) ∙ ap (λ l. l ++ kept_of item ∷ []) kept.are ∙ ap (λ l. marked ++ l) is;
    }
