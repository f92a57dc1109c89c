use Rattle.std.proofs.Common.{refl}
use Rattle.listing_tables.specs.declared.rows.Sort.TheVariants.{Thread}
use Rattle.listing_tables.proofs.StreamLaws.{another_row}
use Rattle.listing_tables.proofs.told.Told.thread.Goals as goal

pub returns-in_ok-push_sorted : goal.returns-in_ok-push_sorted
returns-in_ok-push_sorted g c =
    another_row Thread c.args.rows.now c.push_sorted.new.self c.thread_columns.result refl c.in_ok-push_sorted.ensures
