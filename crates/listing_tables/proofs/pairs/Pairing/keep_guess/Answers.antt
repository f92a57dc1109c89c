use Rattle.std.proofs.Common.{inr, rules}
use Rattle.std.proofs.lemmas.Result.{on_ok_weaker}
use Rattle.listing_tables.proofs.pairs.Pairing.keep_guess.Goals as goal

pub returns-clause-keeps : goal.returns-clause-keeps
returns-clause-keeps c =
    on_ok_weaker c.couple.result
    (λ couples. inr (record {
      mark = c.in_ok-mark.mark;
      there = c.in_ok-mark.ensures;
      delivery = c.in-Some.delivery;
      by = c.in-Some.is;
      send = c.in_ok-send.send;
      sends = c.in_ok-send.ensures;
      free = search rules;
      other = c.in_ok-other.other;
      delivers = c.in_ok-other.ensures;
      untaken = search rules;
      couples = couples;
    }))
    c.couple.ensures
