use Rattle.std.proofs.Common.{length}
use Rattle.refusal_ledgers.proofs.events.push_events.Given as goal

abbrev pub decreases-loop-event : goal.decreases-loop-event
decreases-loop-event l = length l.reader
