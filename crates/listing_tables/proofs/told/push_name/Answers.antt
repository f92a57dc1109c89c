use Rattle.std.proofs.lemmas.Result.{on_ok_weaker}
use Rattle.listing_tables.proofs.StreamLaws.{another_row}
use Rattle.listing_tables.proofs.told.push_name.Goals as goal

pub returns : goal.returns
returns g c =
    on_ok_weaker c.push_sorted.result
    (λ added. another_row c.args.sort c.args.rows.now c.push_sorted.new.self c.name_columns.result c.requires added) c.push_sorted.ensures
