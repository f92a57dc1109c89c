use Rattle.std.proofs.Common.{◌≡◌, ◌++◌}
use Rattle.handle_ledger.proofs.handles.HandleLedger.rows.Given as goal

abbrev pub invariant-loop-handle : goal.invariant-loop-handle
invariant-loop-handle l = l.rows.items ++ l.handle-iterator ≡ l.self.handles.entries
