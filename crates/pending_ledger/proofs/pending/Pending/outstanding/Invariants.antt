use Rattle.std.proofs.Common.{◌≡◌, ◌++◌}
use Rattle.pending_ledger.proofs.PendingLaws.{opens_of}
use Rattle.pending_ledger.specs.Sums.{gather}
use Rattle.pending_ledger.proofs.pending.Pending.outstanding.Given as goal

abbrev pub invariant-loop-key : goal.invariant-loop-key
invariant-loop-key g l = l.places.items ++ gather opens_of l._key-iterator ≡ gather opens_of l.self.keys.entries
