use Rattle.std.proofs.Common.{◌≡◌, map, take, ap, subst, ◌∙◌}
use Rattle.std.specs.List.{flat_map}
use Rattle.listing_tables.specs.Columns.{AddsRows}
use Rattle.listing_tables.specs.Walk.{BeginsWith, IsFrameRow, counted_frames, record_begins}
use Rattle.listing_tables.proofs.plain_walk.walk_capture.Goals as goal

pub returns-clause-frames : goal.returns-clause-frames
returns-clause-frames g c =
    let count = c.in_ok-frames.ending.count in
    let counted : take count c.as_slice.result ≡ counted_frames (map (λ part. part.now) c.args.parts.now)
    = ap (take count) c.as_slice.ensures ∙ c.in_ok-frames.ensures.counted in
    subst (AddsRows IsFrameRow c.args.streams.now.frames c.walk_frames-walked.new.streams.frames) counted c.in_ok-walked.ensures.frames

pub returns-clause-records : goal.returns-clause-records
returns-clause-records g c =
    let count = c.in_ok-frames.ending.count in
    let counted : take count c.as_slice.result ≡ counted_frames (map (λ part. part.now) c.args.parts.now)
    = ap (take count) c.as_slice.ensures ∙ c.in_ok-frames.ensures.counted in
    subst (λ frames. AddsRows BeginsWith c.args.streams.now.records c.walk_frames-walked.new.streams.records (flat_map record_begins frames)) counted
    c.in_ok-walked.ensures.records
