use Rattle.std.proofs.Common.{◌≡◌, map, take}
use Rattle.std.specs.Map.{values_of}
use Rattle.listing_tables.specs.Calls.{row_of_call}
use Rattle.listing_tables.specs.Steps.{rows_of_lists}
use Rattle.listing_tables.proofs.calls.all_calls.Given as goal

-- the calls so far are those of the threads so far
abbrev pub invariant-loop-at : goal.invariant-loop-at
invariant-loop-at l = map row_of_call l.calls.all.items ≡ rows_of_lists (take l.at (values_of l.threads.entries.entries))
