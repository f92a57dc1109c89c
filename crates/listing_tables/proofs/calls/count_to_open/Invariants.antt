use Rattle.std.proofs.Common.{◌≡◌, ◌≤◌, ℕ, map, take}
use Rattle.listing_tables.specs.Calls.{innermost, row_of_call}
use Rattle.listing_tables.proofs.calls.count_to_open.Given as goal

-- the calls that are gone are closed
abbrev pub invariant-loop-number : goal.invariant-loop-number
invariant-loop-number l =
    (at : ℕ) → l.place ≤ at → innermost at (map row_of_call (take l.number l.calls)) ≡ innermost at (map row_of_call l.calls)
