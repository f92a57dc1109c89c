use Rattle.std.proofs.Common.{◌≡◌, length}
use Rattle.listing_tables.proofs.BufferSums.{FreeTurns}
use Rattle.listing_tables.proofs.buffers.Buffers.free.Given as goal

abbrev pub invariant-loop : goal.invariant-loop
invariant-loop l = record {
  end : l.end ≡ length l.fn.self.list.all.items;
  turned : FreeTurns l.fn.key l.place l.fn.self l.self l.next l.counter;
}
