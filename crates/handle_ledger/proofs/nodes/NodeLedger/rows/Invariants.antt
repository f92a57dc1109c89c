use Rattle.std.proofs.Common.{◌≡◌, ◌++◌, map}
use Rattle.handle_ledger.proofs.NodeLaws.{entry_row}
use Rattle.handle_ledger.proofs.nodes.NodeLedger.rows.Given as goal

abbrev pub invariant-loop-key : goal.invariant-loop-key
invariant-loop-key l = l.rows.items ++ map entry_row l.key-iterator ≡ map entry_row l.self.nodes.entries
