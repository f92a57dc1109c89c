use Rattle.std.proofs.Common.{◌≡◌, ◌++◌, map, take}
use Rattle.call_stacks.specs.Calls.{event_place}
use Rattle.audit_findings.proofs.thread_rows.push_places.Given as goal

-- the places so far follow those that were there
abbrev pub invariant-loop-event : goal.invariant-loop-event
invariant-loop-event l = l.places.items ≡ l.initial.places.items ++ map event_place (take l.event-index l.events)
