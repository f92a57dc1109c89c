use Rattle.std.proofs.Common.{◌≡◌, take}
use Rattle.listing_tables.specs.Meanings.{BeginsEach}
use Rattle.listing_tables.proofs.meanings.Meanings.begin.Given as goal

-- the first ones have begun
abbrev pub invariant-loop-generation : goal.invariant-loop-generation
invariant-loop-generation l = record {
  begins : BeginsEach l.seen l.fn.self.list.all.items l.self.list.all.items (take l.generation-index l.generations.list.all.items);
  same : l.self.same ≡ l.fn.self.same;
}
