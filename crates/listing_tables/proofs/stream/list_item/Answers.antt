use Rattle.std.proofs.Common.{[], ◌∷◌}
use Rattle.std.proofs.lemmas.Result.{on_ok_weaker}
use Rattle.capture_frame.specs.Envelope.{placed_frame}
use Rattle.listing_fields.specs.Content.{record_of_item}
use Rattle.listing_tables.specs.Walk.{record_begin}
use Rattle.listing_tables.proofs.StreamLaws.{more_others}
use Rattle.listing_tables.proofs.stream.list_item.Goals as goal

pub returns : goal.returns
returns g c =
    let begin = record_begin (placed_frame c.args.frame) (record_of_item c.args.item) in
    on_ok_weaker c.push_asked.result
    (λ added.
    more_others c.args.rows.now c.push_record.new.rows c.push_asked.new.rows (begin ∷ []) c.in_ok-push_record.ensures added)
    c.push_asked.ensures
