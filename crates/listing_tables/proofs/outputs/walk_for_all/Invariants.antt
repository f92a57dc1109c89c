use Rattle.std.proofs.Common.{map}
use Rattle.listing_tables.specs.Tables.{AreTablesOf}
use Rattle.listing_tables.proofs.outputs.walk_for_all.Given as goal

-- the tables stay those of the capture
abbrev pub invariant-loop-named : goal.invariant-loop-named
invariant-loop-named g l = AreTablesOf (map (λ part. part.now) l.parts) l.tables
