use Rattle.std.proofs.Common.{◌≡◌, ◌+◌, ◌∷◌, ◌++◌, [], take, sym, ap, subst, ◌∙◌}
use Rattle.std.proofs.lemmas.List.{take_more}
use Rattle.std.proofs.lemmas.Option.{get_or_from_slice_get, slice_get_within}
use Rattle.listing_tables.specs.Columns.{AddsRows}
use Rattle.listing_tables.specs.Messages.{IsCallRow}
use Rattle.listing_tables.proofs.WalkLaws.{more_rows}
use Rattle.listing_tables.proofs.messages.Messages.write_calls.Goals as goal

pub loop-index-preserved : goal.loop-index-preserved
loop-index-preserved g c =
    let calls = c.args.calls.now.all.items in
    let i = c.loop-index.index in
    let call = c.in_ok-call.call in
    let so_far = take i calls in
    let more : take (i + 1) calls ≡ so_far ++ call ∷ []
    = take_more calls i call (slice_get_within calls i call c.in_ok-call.ensures)
    ∙ ap (λ x. so_far ++ x ∷ []) (get_or_from_slice_get calls i call call c.in_ok-call.ensures) in
    subst (AddsRows (IsCallRow c.args.self.now.list.all.items) c.args.rows.now c.write_call.new.rows) (sym more)
    (more_rows (IsCallRow c.args.self.now.list.all.items) c.args.rows.now c.loop-index.rows c.write_call.new.rows so_far (call ∷ []) c.loop-index.invariant c.in_ok-write_call.ensures)
