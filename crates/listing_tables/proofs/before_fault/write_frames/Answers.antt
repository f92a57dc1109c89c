use Rattle.std.proofs.Common.{◌≡◌, ℕ, ◌+◌, List, ◌∷◌, ◌++◌, [], take, sym, ap, subst, ◌∙◌}
use Rattle.std.proofs.KnownBytes.{Appends-trans}
use Rattle.std.proofs.lemmas.List.{flat_map_more, take_more}
use Rattle.std.proofs.lemmas.Option.{get_or_from_slice_get, slice_get_within}
use Rattle.std.specs.Io.KnownBytes.{Appends}
use Rattle.capture_frame.specs.declared.version.Version.TheVariants.{Two}
use Rattle.capture_frame.specs.Envelope.{FrameText, PlacedFrame, file_header, frame_bytes, placed_frame}
use Rattle.listing_tables.specs.BeforeFault.{good_capture, good_part}
use Rattle.listing_tables.proofs.before_fault.write_frames.Goals as goal

pub loop-number-preserved : goal.loop-number-preserved
loop-number-preserved g c =
    let at = g.W.Write.contents in
    let frames = c.args.frames.now in
    let i = c.loop-number.number in
    let frame = placed_frame c.get.result in
    let so_far = take i frames in
    let more : take (i + 1) frames ≡ so_far ++ frame ∷ []
    = take_more frames i frame (slice_get_within frames i frame c.get.ensures)
    ∙ ap (λ x. so_far ++ x ∷ []) (get_or_from_slice_get frames i frame frame c.get.ensures) in
    let bytes : PlacedFrame → List ℕ = λ frame. frame_bytes (good_part frame) in
    let written = subst (λ (text : FrameText). Appends (at c.loop-number.out) (at c.write_frame.new.out) (frame_bytes text))
    c.good_part.ensures c.in_ok-write_frame.ensures in
    subst (Appends (at c.args.out.now) (at c.write_frame.new.out))
    (flat_map_more bytes (file_header Two) so_far frame ∙ ap good_capture (sym more))
    (Appends-trans _ _ _ _ _ c.loop-number.invariant written)
