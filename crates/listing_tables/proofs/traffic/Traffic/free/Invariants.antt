use Rattle.std.proofs.Common.{◌≡◌}
use Rattle.listing_tables.proofs.traffic.Traffic.free.Given as goal

-- messages, and sends that wait, stay
abbrev pub invariant-loop-at : goal.invariant-loop-at
invariant-loop-at l = record {
  messages : l.self.messages ≡ l.fn.self.messages;
  sends : l.self.sends ≡ l.fn.self.sends;
}
