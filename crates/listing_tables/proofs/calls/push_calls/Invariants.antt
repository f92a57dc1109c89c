use Rattle.std.proofs.Common.{◌≡◌, ◌≤◌, ℕ, ◌++◌, [], map, take}
use Rattle.listing_tables.specs.Calls.{innermost, nested_after, row_of_call, row_of_opener}
use Rattle.listing_tables.proofs.calls.push_calls.Given as goal

-- the calls so far follow those that were there, and the stack has the one that a later call is within
abbrev pub invariant-loop-opener : goal.invariant-loop-opener
invariant-loop-opener l = record {
  rows : map row_of_call l.calls.all.items
      ≡ map row_of_call l.initial.calls.all.items ++ nested_after [] (map row_of_opener (take l.opener-index l.openers));
  stack : (at : ℕ) → l.least ≤ at → innermost at (map row_of_call l.stack.items)
      ≡ innermost at (nested_after [] (map row_of_opener (take l.opener-index l.openers)));
}
