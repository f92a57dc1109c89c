use Rattle.std.proofs.Common.{length, ap, arith}
use Rattle.capture_frame.specs.Envelope.{placed_frame}
use Rattle.audit_findings.proofs.EntryWalk.{adds_frame, grows_frame, none_read, read_chosen, read_other}
use Rattle.audit_findings.proofs.entries.add_frame.Goals as goal

pub loop-event-init : goal.loop-event-init
loop-event-init c = none_read c.args.entries.now.items (placed_frame c.args.frame) c.args.places.now c.of-events.result c.of-events.ensures

pub loop-event-smaller-in-Some-after : goal.loop-event-smaller-in-Some-after
loop-event-smaller-in-Some-after c = let long = ap length (rw c.in-Some.is at c.next_event.ensures) in omega (arith, long)

pub loop-event-preserved-in-Some-after : goal.loop-event-preserved-in-Some-after
loop-event-preserved-in-Some-after c =
    read_chosen c.args.entries.now.items c.loop-event.entries.items (placed_frame c.args.frame) c.args.places.now c.loop-event.rest.now c.loop-event.events
    c.next_event.new.self c.in-Some.event c.loop-event.invariant (rw c.in-Some.is at c.next_event.ensures) c.add_entry.new.entries.items
    c.in-Some-after.others.now c.in-Some-after.ensures.some c.in_ok-add_entry.ensures

pub loop-event-smaller : goal.loop-event-smaller
loop-event-smaller c = let long = ap length (rw c.in-Some.is at c.next_event.ensures) in omega (arith, long)

pub loop-event-preserved : goal.loop-event-preserved
loop-event-preserved c =
    read_other c.args.entries.now.items c.loop-event.entries.items (placed_frame c.args.frame) c.args.places.now c.loop-event.rest.now c.loop-event.events
    c.next_event.new.self c.in-Some.event c.loop-event.invariant (rw c.in-Some.is at c.next_event.ensures) c.in_default-after.ensures.none

pub returns-clause-few : goal.returns-clause-few
returns-clause-few c =
    grows_frame c.args.entries.now.items c.loop-event.entries.items (placed_frame c.args.frame) c.args.places.now c.loop-event.rest.now c.loop-event.events
    c.loop-event.invariant (rw c.in_default.is at c.next_event.ensures).0

pub returns-clause-entries : goal.returns-clause-entries
returns-clause-entries c =
    adds_frame c.args.entries.now.items c.loop-event.entries.items (placed_frame c.args.frame) c.args.places.now c.loop-event.rest.now c.loop-event.events
    c.loop-event.invariant (rw c.in_default.is at c.next_event.ensures).0
