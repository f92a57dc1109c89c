use Rattle.std.proofs.Common.{◌≡◌, length}
use Rattle.capture_frame.specs.Envelope.{placed_frame}
use Rattle.event_core.specs.Events.{event_at_place, events_of}
use Rattle.event_core.proofs.lookup.event_at.Given as goal

-- no event that was passed is at the place
abbrev pub invariant-loop-event : goal.invariant-loop-event
invariant-loop-event l = event_at_place l.fn.place (events_of (placed_frame l.fn.frame)) ≡ event_at_place l.fn.place l.events

abbrev pub decreases-loop-event : goal.decreases-loop-event
decreases-loop-event l = length l.events
