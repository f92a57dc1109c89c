use Rattle.std.proofs.Common.{◌≡◌, ◌++◌, false, map, take, drop}
use Rattle.listing_tables.specs.Meanings.{made_known}
use Rattle.listing_tables.proofs.meanings.Meanings.settle.Given as goal

-- the first ones are known, and if that is no more than before, none has changed
abbrev pub invariant-loop-index : goal.invariant-loop-index
invariant-loop-index l =
    (l.self.list.all.items ≡ map made_known (take l.index l.initial.self.list.all.items) ++ drop l.index l.initial.self.list.all.items)
    × (l.is_more ≡ false → l.self.list.all.items ≡ l.initial.self.list.all.items)
