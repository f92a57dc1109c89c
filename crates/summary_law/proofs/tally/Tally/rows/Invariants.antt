use Rattle.std.proofs.Common.{◌≡◌, ◌++◌, map}
use Rattle.summary_law.proofs.TallyLaws.{row_of}
use Rattle.summary_law.proofs.tally.Tally.rows.Given as goal

abbrev pub invariant-loop-key : goal.invariant-loop-key
invariant-loop-key g l = l.rows.items ++ map row_of l.key-iterator ≡ map row_of l.self.amounts.entries
