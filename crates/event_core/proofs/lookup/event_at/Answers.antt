use Rattle.std.proofs.Common.{◌≡◌, ◌∷◌, length, Some, None, refl, sym, ap, ◌∙◌, arith}
use Rattle.std.proofs.lemmas.Bool.{eq-eqb, ne_eqb}
use Rattle.capture_frame.specs.Envelope.{placed_frame}
use Rattle.event_core.specs.Events.{event_at_place}
use Rattle.event_core.specs.Reading.{event_text}
use Rattle.event_core.proofs.RecordAt.{there_exactly}
use Rattle.event_core.proofs.lookup.event_at.Goals as goal

pub loop-event-init : goal.loop-event-init
loop-event-init c = ap (event_at_place c.args.place) (sym c.of-events.ensures)

pub loop-event-smaller : goal.loop-event-smaller
loop-event-smaller c =
    let steps = rw c.in-Some.is at c.next_event.ensures in
    omega (arith, ap length steps)

pub loop-event-preserved : goal.loop-event-preserved
loop-event-preserved c =
    let steps = rw c.in-Some.is at c.next_event.ensures in
    c.loop-event.invariant ∙ ap (event_at_place c.args.place) steps ∙ rw (ne_eqb c.in-Some.event.place c.args.place c.if-event-place.false) refl

pub returns-then-event-place : goal.returns-then-event-place
returns-then-event-place c =
    let steps = rw c.in-Some.is at c.next_event.ensures in
    let found : Some (event_text c.in-Some.event) ≡ event_at_place c.args.place (event_text c.in-Some.event ∷ c.next_event.new.self) =
    rw (eq-eqb c.in-Some.event.place c.args.place c.if-event-place.true) refl in
    let exact = found ∙ sym (c.loop-event.invariant ∙ ap (event_at_place c.args.place) steps) in
    record { exact = exact; there = there_exactly (placed_frame c.args.frame) c.args.place (Some c.in-Some.event) exact }

pub returns : goal.returns
returns c =
    let steps = rw c.in_default.is at c.next_event.ensures in
    let exact = sym (c.loop-event.invariant ∙ ap (event_at_place c.args.place) steps.0) in
    record { exact = exact; there = there_exactly (placed_frame c.args.frame) c.args.place None exact }
