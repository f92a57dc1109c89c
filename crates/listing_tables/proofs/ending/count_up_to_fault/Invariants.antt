use Rattle.std.proofs.Common.{All, take}
use Rattle.transaction_view.specs.Grammar.{IsGood}
use Rattle.listing_tables.proofs.ending.count_up_to_fault.Given as goal

abbrev pub invariant-loop-number : goal.invariant-loop-number
invariant-loop-number l = All IsGood (take l.number l.frames)
