use Rattle.std.proofs.Common.{◌≡◌, map, take, ap, subst, ◌∙◌}
use Rattle.std.specs.List.{flat_map}
use Rattle.listing_tables.specs.Stream.{AddsRecords}
use Rattle.listing_tables.specs.Walk.{counted_frames, record_begins}
use Rattle.listing_tables.proofs.StreamLaws.{whole_stream}
use Rattle.listing_tables.proofs.stream.list_capture.Goals as goal

pub returns : goal.returns
returns g c =
    let count = c.in_ok-frames.ending.count in
    let all = counted_frames (map (λ part. part.now) c.args.parts.now) in
    let counted : take count c.as_slice.result ≡ all = ap (take count) c.as_slice.ensures ∙ c.in_ok-frames.ensures.counted in
    let start = c.args.rows.now in
    let listed = c.list_frames-listed.new.rows in
    whole_stream start listed c.push_ending.new.rows (flat_map record_begins all) c.status_of-status.result
    (subst (λ frames. AddsRecords start listed (flat_map record_begins frames)) counted c.in_ok-listed.ensures)
    c.in_ok-push_ending.ensures
