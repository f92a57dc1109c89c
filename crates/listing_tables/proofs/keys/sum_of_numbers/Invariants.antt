use Rattle.std.proofs.Common.{◌≡◌, take}
use Rattle.listing_tables.specs.Keys.{sum_of_numbers}
use Rattle.listing_tables.proofs.keys.sum_of_numbers.Given as goal

abbrev pub invariant-loop-number : goal.invariant-loop-number
invariant-loop-number l = l.key ≡ sum_of_numbers (take l.number-index l.numbers)
