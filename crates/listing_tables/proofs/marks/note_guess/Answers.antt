use Rattle.std.proofs.lemmas.Result.{on_ok_weaker}
use Rattle.listing_tables.proofs.marks.note_guess.Goals as goal

pub returns : goal.returns
returns c =
    on_ok_weaker c.set.result (λ are. record { before = c.in_ok-mark.mark; there = c.in_ok-mark.ensures; are = are }) c.set.ensures
