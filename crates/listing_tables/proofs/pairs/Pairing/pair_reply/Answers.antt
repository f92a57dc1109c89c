use Rattle.std.proofs.Common.{ℕ, ◌+◌, Bool, inr, subst}
use Rattle.std.specs.Prelude.{if◌then◌else◌}
use Rattle.std.proofs.lemmas.Result.{on_ok_weaker}
use Rattle.listing_tables.specs.Changes.{Rates}
use Rattle.listing_tables.specs.Pairing.{messages_of}
use Rattle.listing_tables.proofs.pairs.Pairing.pair_reply.Goals as goal

pub returns-clause-pairs : goal.returns-clause-pairs
returns-clause-pairs c =
    let old = messages_of c.args.self.now in
    let between = c.rate.new.self.list.all.items in
    let ends = c.in-Some.ends in
    let sent = c.in_ok-sent.sent in
    let whole = c.in_ok-is_whole.is_whole in
    let rate = c.rate_of_reply-rate in
    on_ok_weaker c.couple.result
    (λ couples. inr (record {
      ends = ends;
      has = rw c.in-Some.is at c.in_ok-found.ensures;
      sent = sent;
      sends = c.in_ok-sent.ensures;
      whole = whole;
      says = c.in_ok-is_whole.ensures;
      pairs = record {
        between = between;
        rates = subst (λ (b : Bool). Rates old between ends.replied (if whole then sent.fits else sent.fits + 1) b) rate.ensures.certain
            (subst (λ (n : ℕ). Rates old between ends.replied n rate.result.1) rate.ensures.fits c.in_ok-rate.ensures);
        couples = couples;
      };
    }))
    c.couple.ensures
