use Rattle.std.proofs.Common.{◌≡◌, ◌++◌}
use Rattle.pending_ledger.specs.Sums.{gather, opens_list}
use Rattle.pending_ledger.proofs.cookie.CookieRequests.push_standing.Given as goal

abbrev pub invariant-loop-handle : goal.invariant-loop-handle
invariant-loop-handle l = l.places.items ++ gather opens_list l._handle-iterator ≡ l.fn.places.items ++ gather opens_list l.self.handles.entries
