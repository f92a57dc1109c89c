use Rattle.std.proofs.Common.{◌≡◌, ◌+◌, ◌∷◌, ◌++◌, [], take, sym, ap, subst, ◌∙◌}
use Rattle.std.proofs.lemmas.List.{flat_map_more, take_more}
use Rattle.std.proofs.lemmas.Option.{get_or_from_slice_get, slice_get_within}
use Rattle.std.specs.List.{flat_map}
use Rattle.capture_frame.specs.Envelope.{placed_frame}
use Rattle.listing_tables.specs.Columns.{AddsRows}
use Rattle.listing_tables.specs.Steps.{KeepsAll, marked_in}
use Rattle.listing_tables.specs.Walk.{BeginsWith, IsFrameRow, record_begins}
use Rattle.listing_tables.proofs.WalkLaws.{more_rows}
use Rattle.listing_tables.proofs.walk.walk_frames.Goals as goal

pub walk_frame-requires-clause-kept : goal.walk_frame-requires-clause-kept
walk_frame-requires-clause-kept g c =
    let kept = c.requires.kept in
    (kept.0 ++ flat_map marked_in (take c.loop-number.number c.args.frames.now), c.loop-number.invariant.marked kept.0 kept.1)

pub loop-number-preserved : goal.loop-number-preserved
loop-number-preserved g c =
    let frames = c.args.frames.now in
    let i = c.loop-number.number in
    let so_far = take i frames in
    let frame = placed_frame c.get-frame.result in
    let more : take (i + 1) frames ≡ so_far ++ frame ∷ []
    = take_more frames i frame (slice_get_within frames i frame c.get-frame.ensures)
    ∙ ap (λ x. so_far ++ x ∷ []) (get_or_from_slice_get frames i frame frame c.get-frame.ensures) in
    let before = c.loop-number.invariant in
    let now = c.in_ok-walk_frame.ensures in
    let was = c.loop-number.streams in
    let new = c.walk_frame.new.streams in
    record {
      frames = subst (AddsRows IsFrameRow c.args.streams.now.frames new.frames) (sym more)
          (more_rows IsFrameRow c.args.streams.now.frames was.frames new.frames so_far (frame ∷ []) before.frames now.frames);
      records = subst (AddsRows BeginsWith c.args.streams.now.records new.records)
          (flat_map_more record_begins [] so_far frame ∙ ap (flat_map record_begins) (sym more))
          (more_rows BeginsWith c.args.streams.now.records was.records new.records (flat_map record_begins so_far) (record_begins frame)
          before.records now.records);
      calls = now.calls ∙ before.calls;
      marked = λ marked kept.
          subst (KeepsAll c.walk_frame.new.tables.steps.entries.entries)
          (flat_map_more marked_in marked so_far frame ∙ ap (λ l. marked ++ flat_map marked_in l) (sym more))
          (now.marked (marked ++ flat_map marked_in so_far) (before.marked marked kept));
    }
