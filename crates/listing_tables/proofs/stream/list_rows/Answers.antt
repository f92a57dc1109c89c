use Rattle.std.proofs.Common.{map}
use Rattle.std.specs.List.{flat_map}
use Rattle.listing_tables.specs.Walk.{counted_frames, record_begins}
use Rattle.listing_tables.proofs.StreamLaws.{kept_stream}
use Rattle.listing_tables.proofs.stream.list_rows.Goals as goal

pub returns-in_ok-finish-in-Ok : goal.returns-in_ok-finish-in-Ok
returns-in_ok-finish-in-Ok g c =
    let at = g.W.Write.contents in
    kept_stream (at c.args.out) c.new-rows.result c.list_capture.new.rows (at c.in_ok-finish-in-Ok.field-0)
    (flat_map record_begins (counted_frames (map (λ part. part.now) c.args.parts.now))) _ c.new-rows.ensures c.in-Ok.ensures
    c.in_ok-finish-in-Ok.ensures
