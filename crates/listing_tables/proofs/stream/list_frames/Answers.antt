use Rattle.capture_frame.specs.Envelope.{placed_frame}
use Rattle.listing_tables.specs.Walk.{record_begins}
use Rattle.listing_tables.proofs.StreamLaws.{records_after}
use Rattle.listing_tables.proofs.stream.list_frames.Goals as goal

pub loop-number-preserved : goal.loop-number-preserved
loop-number-preserved g c =
    records_after c.args.rows.now c.loop-number.rows c.list_frame.new.rows record_begins c.args.frames.now c.loop-number.number
    (placed_frame c.get-frame.result) c.get-frame.ensures c.loop-number.invariant c.in_ok-list_frame.ensures
