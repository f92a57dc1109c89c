use Rattle.std.proofs.Common.{◌≡◌, ◌+◌, ◌∷◌, ◌++◌, [], take, sym, ap, subst, ◌∙◌}
use Rattle.std.proofs.lemmas.List.{take_more}
use Rattle.std.proofs.lemmas.Option.{get_or_from_slice_get, slice_get_within}
use Rattle.capture_frame.specs.Envelope.{placed_frame}
use Rattle.listing_tables.specs.Columns.{AddsRows}
use Rattle.listing_tables.specs.Walk.{BeginsWith, IsFrameRow, record_begins}
use Rattle.listing_tables.proofs.WalkLaws.{more_rows, rows_after}
use Rattle.listing_tables.proofs.plain_walk.walk_frames.Goals as goal

pub loop-number-preserved : goal.loop-number-preserved
loop-number-preserved g c =
    let frames = c.args.frames.now in
    let i = c.loop-number.number in
    let frame = placed_frame c.get-frame.result in
    let more : take (i + 1) frames ≡ take i frames ++ frame ∷ []
    = take_more frames i frame (slice_get_within frames i frame c.get-frame.ensures)
    ∙ ap (λ x. take i frames ++ x ∷ []) (get_or_from_slice_get frames i frame frame c.get-frame.ensures) in
    let before = c.loop-number.invariant in
    let now = c.in_ok-walk_frame.ensures in
    let first = c.args.streams.now in
    let was = c.loop-number.streams in
    let new = c.walk_frame.new.streams in
    record {
      frames = subst (AddsRows IsFrameRow first.frames new.frames) (sym more)
          (more_rows IsFrameRow first.frames was.frames new.frames (take i frames) (frame ∷ []) before.frames now.frames);
      records = rows_after BeginsWith first.records was.records new.records record_begins frames i frame c.get-frame.ensures before.records
          now.records;
    }
