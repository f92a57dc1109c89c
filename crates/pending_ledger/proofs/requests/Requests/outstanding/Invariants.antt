use Rattle.std.proofs.Common.{◌≡◌, ◌++◌, All}
use Rattle.pending_ledger.proofs.RequestLaws.{HasOrder}
use Rattle.pending_ledger.specs.Sums.{gather, standing_places}
use Rattle.pending_ledger.proofs.requests.Requests.outstanding.Given as goal

abbrev pub invariant-loop-cookie : goal.invariant-loop-cookie
invariant-loop-cookie l = record {
  places : l.places.items ++ gather standing_places l._cookie-iterator ≡ gather standing_places l.self.cookies.entries;
  ordered : All HasOrder l._cookie-iterator → All HasOrder l.self.cookies.entries;
}
