use Rattle.std.proofs.Common.{◌≡◌}
use Rattle.listing_tables.specs.Meanings.{SpreadsTimes}
use Rattle.listing_tables.proofs.meanings.Meanings.spread.Given as goal

-- the pairs were gone through so many times
abbrev pub invariant-loop : goal.invariant-loop
invariant-loop l = record {
  same : l.self.same ≡ l.fn.self.same;
  times : SpreadsTimes l.fn.self.list.all.items l.self.list.all.items l.fn.self.same.all.items l.counter;
}
