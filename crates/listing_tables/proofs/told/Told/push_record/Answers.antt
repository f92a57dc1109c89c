use Rattle.std.proofs.Common.{[], ◌∷◌}
use Rattle.std.proofs.lemmas.Result.{on_ok_weaker}
use Rattle.capture_frame.specs.Envelope.{placed_frame}
use Rattle.listing_fields.specs.Content.{record_of_item}
use Rattle.listing_tables.specs.Walk.{record_begin}
use Rattle.listing_tables.proofs.StreamLaws.{a_record, more_others, more_records}
use Rattle.listing_tables.proofs.told.Told.push_record.Goals as goal

pub returns : goal.returns
returns g c =
    let begin = record_begin (placed_frame c.args.frame) (record_of_item c.args.item) in
    let start = c.args.rows.now in
    let one = c.interface.new.rows in
    let two = c.service.new.rows in
    let all = c.push_sorted.new.self in
    on_ok_weaker c.push_sorted.result
    (λ added.
    more_records start two all [] (begin ∷ []) (more_others start one two [] c.in_ok-interface.ensures c.in_ok-service.ensures)
    (a_record two all begin c.record_columns-columns.result c.record_columns-columns.ensures.begins added))
    c.push_sorted.ensures
