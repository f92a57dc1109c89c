use Rattle.std.proofs.Common.{map}
use Rattle.std.specs.List.{flat_map}
use Rattle.listing_tables.specs.Walk.{BeginsWith, IsFrameRow, counted_frames, record_begins}
use Rattle.listing_tables.proofs.WalkLaws.{kept_rows}
use Rattle.listing_tables.proofs.plain_walk.walk_plainly.Goals as goal

pub returns-in_ok-finish-in-Ok-clause-frames : goal.returns-in_ok-finish-in-Ok-clause-frames
returns-in_ok-finish-in-Ok-clause-frames g c =
    let at = g.W.Write.contents in
    kept_rows IsFrameRow (at c.args.writers.frames) c.new-streams.result.frames c.walk_capture.new.streams.frames
    (at c.in_ok-finish-in-Ok.field-0.frames) (counted_frames (map (λ part. part.now) c.args.parts.now)) c.new-streams.ensures.frames
    c.in-Ok.ensures.frames c.in_ok-finish-in-Ok.ensures.frames

pub returns-in_ok-finish-in-Ok-clause-records : goal.returns-in_ok-finish-in-Ok-clause-records
returns-in_ok-finish-in-Ok-clause-records g c =
    let at = g.W.Write.contents in
    kept_rows BeginsWith (at c.args.writers.records) c.new-streams.result.records c.walk_capture.new.streams.records
    (at c.in_ok-finish-in-Ok.field-0.records) (flat_map record_begins (counted_frames (map (λ part. part.now) c.args.parts.now)))
    c.new-streams.ensures.records c.in-Ok.ensures.records c.in_ok-finish-in-Ok.ensures.records
