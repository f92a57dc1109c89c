use Rattle.std.proofs.Common.{◌≡◌, ◌++◌, map, take}
use Rattle.call_stacks.specs.Calls.{open_call}
use Rattle.call_stacks.proofs.calls.in_order.Given as goal

-- the open calls so far come after the closed ones
abbrev pub invariant-loop-event : goal.invariant-loop-event
invariant-loop-event g l = l.openers.items ≡ l.fn.closed.items ++ map open_call (take l.event-index l.unmatched)
