use Rattle.std.proofs.Common.{sym, ap, ◌∙◌, arith}
use Rattle.std.proofs.lemmas.List.{take_rest}
use Rattle.capture_frame.specs.ReadOn.{Parsed}
use Rattle.transaction_view.specs.Attachments.{EntryText}
use Rattle.transaction_view.proofs.EntryLaws.{good_past, none_ahead}
use Rattle.transaction_view.proofs.good_entries.GoodEntries.next_entry.Goals as goal

pub returns-in_default : goal.returns-in_default
returns-in_default c =
    let r = c.self.inside in
    let none = sym c.self.view_is ∙ none_ahead r.frame r.distance r.before _ (take_rest r.frame.attachments.now r.distance) c.self.invariant c.in_default.ensures.short in
    (none, none)

pub u32_at-offset-requires : goal.u32_at-offset-requires
u32_at-offset-requires c =
    let whole = c.in-Some.ensures.fields.whole in
    omega (arith, whole)

pub overflow_add-owner : goal.overflow_add-owner
overflow_add-owner c =
    let r = c.self.inside in
    let past = good_past r.frame r.distance r.before _ (take_rest r.frame.attachments.now r.distance) c.self.invariant
    c.u32_at-offset.result c.u32_at-offset.ensures _ _ c.in-Some.ensures.fields in
    let fits = r.frame.fits in
    omega (arith, past, fits, c.commands_place.ensures, c.from.ensures)

pub invariant_of-result : goal.invariant_of-result
invariant_of-result c =
    let r = c.self.inside in
    let past = good_past r.frame r.distance r.before _ (take_rest r.frame.attachments.now r.distance) c.self.invariant
    c.u32_at-offset.result c.u32_at-offset.ensures _ _ c.in-Some.ensures.fields in
    let fits = r.frame.fits in
    record {
      fits = omega (arith, past, fits, c.attachments_place.ensures);
      after_owner = omega (arith, past, c.commands_place.ensures, c.from.ensures, c.attachments_place.ensures);
    }

pub invariant_of-self : goal.invariant_of-self
invariant_of-self c =
    let r = c.self.inside in
    let past = good_past r.frame r.distance r.before _ (take_rest r.frame.attachments.now r.distance) c.self.invariant
    c.u32_at-offset.result c.u32_at-offset.ensures _ _ c.in-Some.ensures.fields in
    record { within = past.within; good = sym (ap (λ (found : Parsed EntryText). found.fault) past.ahead) ∙ c.self.invariant.good }

pub returns : goal.returns
returns c =
    let r = c.self.inside in
    let past = good_past r.frame r.distance r.before _ (take_rest r.frame.attachments.now r.distance) c.self.invariant
    c.u32_at-offset.result c.u32_at-offset.ensures _ _ c.in-Some.ensures.fields in
    rw (c.attachments_place.ensures, c.commands_place.ensures, c.from.ensures) (sym c.self.view_is ∙ ap (λ (found : Parsed EntryText). found.units) past.ahead)
