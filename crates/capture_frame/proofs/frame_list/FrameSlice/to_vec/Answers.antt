use Rattle.std.proofs.Common.{◌<◌, ◌++◌, ◌∷◌, [], ℕ, List, take, ap, subst, sym, ◌∙◌}
use Rattle.std.proofs.lemmas.List.{map-append, take_more}
use Rattle.std.proofs.lemmas.Option.{get_or_from_slice_get}
use Rattle.capture_frame.specs.Envelope.{PlacedFrame, placed_frame}
use Rattle.capture_frame.specs.Cut.{shown_by}
use Rattle.capture_frame.proofs.frame_list.FrameSlice.to_vec.Goals as goal

pub loop-number-preserved : goal.loop-number-preserved
loop-number-preserved c =
    let frames = c.args.self.now in
    let found = placed_frame c.get.result in
    ap shown_by c.in_ok-push.ensures.items
    ∙ map-append placed_frame c.loop-number.frames.items (c.get.result ∷ [])
    ∙ ap (λ (l : List PlacedFrame). l ++ found ∷ []) c.loop-number.invariant
    ∙ ap (λ (f : PlacedFrame). take c.loop-number.number frames ++ f ∷ []) (sym (get_or_from_slice_get frames c.loop-number.number found found c.get.ensures))
    ∙ sym (take_more frames c.loop-number.number found (subst (λ (n : ℕ). c.loop-number.number < n) c.len-number-end.ensures c.loop-number-test.true))
