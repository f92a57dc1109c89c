use Rattle.std.proofs.Common.{◌≡◌, false, take}
use Rattle.listing_tables.specs.Meanings.{SpreadsEach}
use Rattle.listing_tables.proofs.meanings.Meanings.spread_once.Given as goal

-- the first pairs are spread, and if that is no more than before, nothing has changed
abbrev pub invariant-loop-at : goal.invariant-loop-at
invariant-loop-at l = record {
  same : l.self.same ≡ l.fn.self.same;
  spread : SpreadsEach l.fn.self.list.all.items l.self.list.all.items (take l.at l.self.same.all.items);
  more : l.noted ≡ false → l.self.list.all.items ≡ l.fn.self.list.all.items;
}
