use Rattle.std.proofs.Common.{◌≡◌, ◌==◌, ℕ, length, map, ap, sym, ◌∙◌}
use Rattle.std.proofs.lemmas.List.{length-map}
use Rattle.call_stacks.specs.Calls.{open_call}
use Rattle.listing_tables.proofs.followed.Followed.is_closed.Goals as goal

pub returns : goal.returns
returns c = λ events sums.
    let left = c.open_calls.result.now in
    c.is_empty.ensures
    ∙ ap (λ (n : ℕ). n == 0) (sym (length-map left open_call) ∙ ap length (c.open_calls.ensures events sums))
