use Rattle.std.proofs.lemmas.Result.{on_ok_weaker}
use Rattle.listing_tables.proofs.pairs.Pairing.claim_all.Goals as goal

pub returns : goal.returns
returns c =
    on_ok_weaker c.claim_marked.result
    (λ claims. record { marked = c.mark_calls.new.self; marks = c.in_ok-mark_calls.ensures; claims = claims })
    c.claim_marked.ensures
