use Rattle.std.proofs.Common.{[], refl}
use Rattle.listing_tables.specs.declared.rows.Sort.TheVariants.{Object}
use Rattle.listing_tables.proofs.StreamLaws.{another_row, more_others}
use Rattle.listing_tables.proofs.told.push_objects.Goals as goal

pub loop-attached-preserved : goal.loop-attached-preserved
loop-attached-preserved g c =
    more_others c.args.rows.now c.loop-attached.rows c.push_sorted.new.self [] c.loop-attached.invariant
    (another_row Object c.loop-attached.rows c.push_sorted.new.self c.object_columns.result refl c.in_ok-push_sorted.ensures)
