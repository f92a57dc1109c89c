use Rattle.std.proofs.Common.{[]}
use Rattle.std.proofs.lemmas.Result.{on_ok_weaker}
use Rattle.capture_frame.specs.Envelope.{placed_frame}
use Rattle.listing_tables.specs.Walk.{record_begins}
use Rattle.listing_tables.proofs.StreamLaws.{more_records}
use Rattle.listing_tables.proofs.stream.list_frame.Goals as goal

pub returns : goal.returns
returns g c =
    on_ok_weaker c.list_items.result
    (λ added.
    more_records c.args.rows.now c.thread.new.rows c.list_items.new.rows [] (record_begins (placed_frame c.args.frame))
    c.in_ok-utid.ensures added)
    c.list_items.ensures
