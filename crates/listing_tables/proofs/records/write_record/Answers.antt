use Rattle.std.proofs.lemmas.Result.{on_ok_weaker}
use Rattle.capture_frame.specs.Envelope.{placed_frame}
use Rattle.listing_fields.specs.Content.{record_of_item}
use Rattle.listing_tables.specs.Walk.{BeginsWith, record_begin}
use Rattle.listing_tables.proofs.WalkLaws.{one_row}
use Rattle.listing_tables.proofs.records.write_record.Goals as goal

pub returns : goal.returns
returns g c =
    on_ok_weaker c.push.result
    (λ added.
    one_row BeginsWith c.args.rows.now c.push.new.self (record_begin (placed_frame c.args.frame) (record_of_item c.args.item))
    c.record_columns-columns.result c.record_columns-columns.ensures.begins added)
    c.push.ensures
