use Rattle.std.proofs.Common.{◌∷◌, [], subst}
use Rattle.std.proofs.lemmas.Result.{on_ok_weaker}
use Rattle.capture_frame.specs.Envelope.{placed_frame}
use Rattle.listing_tables.specs.Columns.{AddsRows}
use Rattle.listing_tables.specs.Walk.{IsFrameRow}
use Rattle.listing_tables.proofs.WalkLaws.{one_row}
use Rattle.listing_tables.proofs.plain_walk.walk_frame.Goals as goal

pub returns-clause-frames : goal.returns-clause-frames
returns-clause-frames g c =
    let frame = placed_frame c.args.frame in
    on_ok_weaker c.push.result
    (λ added.
    subst (λ old. AddsRows IsFrameRow old c.push.new.self (frame ∷ [])) c.in_ok-count.ensures.frames
    (one_row IsFrameRow c.walk_items.new.streams.frames c.push.new.self frame c.frame_columns.result c.frame_columns.ensures added))
    c.push.ensures
