use Rattle.std.proofs.Common.{map, sym, subst}
use Rattle.listing_tables.specs.Tables.{AreTablesOf}
use Rattle.listing_tables.proofs.TableLaws.{still_of}
use Rattle.listing_tables.proofs.outputs.walk_for_all.Goals.{then-not-is_streamed+in_ok-file+in_ok-write_table, else-not-is_streamed}
use Rattle.listing_tables.proofs.outputs.walk_for_all.Goals as goal

pub loop-named-preserved : goal.loop-named-preserved
loop-named-preserved g c =
    let parts = map (λ part. part.now) c.args.parts.now in
    elim c.if-not-is_streamed.branch [
      | then-not-is_streamed+in_ok-file+in_ok-write_table w ↦ subst (AreTablesOf parts) (sym w.tables-is)
          (still_of parts _ _ w.write_table.ensures.kept c.loop-named.invariant)
      | else-not-is_streamed w ↦ subst (AreTablesOf parts) (sym w.tables-is) c.loop-named.invariant
    ]
