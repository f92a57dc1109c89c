use Rattle.std.proofs.Common.{length, ap, arith}
use Rattle.refusal_ledgers.proofs.events.push_events.Goals as goal

pub loop-event-smaller : goal.loop-event-smaller
loop-event-smaller c =
    let steps = rw c.in-Some-next_event.is at c.next_event.ensures in
    omega (arith, ap length steps)
