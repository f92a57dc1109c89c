use Rattle.std.proofs.Common.{take}
use Rattle.listing_tables.specs.Columns.{WritesRows}
use Rattle.listing_tables.specs.Generations.{generation_rows}
use Rattle.listing_tables.proofs.generations.Generations.write.Given as goal

-- the rows of the first generations are written
abbrev pub invariant-loop-index : goal.invariant-loop-index
invariant-loop-index g l = WritesRows l.fn.rows l.rows (generation_rows (take l.index l.self.list.all.items))
