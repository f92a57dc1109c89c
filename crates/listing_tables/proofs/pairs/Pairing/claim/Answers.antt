use Rattle.std.proofs.Common.{ℕ, List, true, inr, ap, subst, ◌∙◌, rules}
use Rattle.std.proofs.lemmas.Result.{on_ok_weaker}
use Rattle.listing_tables.specs.Changes.{RatesPair}
use Rattle.listing_tables.specs.Pairing.{messages_of}
use Rattle.listing_tables.specs.declared.messages.Message.{Message}
use Rattle.listing_tables.specs.declared.pairs.Pairing.{Pairing}
use Rattle.listing_tables.proofs.PairLaws.{on_ok_both}
use Rattle.listing_tables.proofs.pairs.Pairing.claim.Goals as goal

pub returns-clause-claims : goal.returns-clause-claims
returns-clause-claims c =
    let new = messages_of c.keep_pair.new.self in
    let send = c.in-By.send in
    let same = ap messages_of c.in_ok-sought.ensures.same in
    on_ok_weaker c.keep_pair.result
    (λ both. inr (
      record {
        mark = c.in_ok-mark.mark;
        there = c.in_ok-mark.ensures;
        send = send;
        by = c.in-By.is;
        delivery = c.in_ok-delivery.delivery;
        delivers = c.in_ok-delivery.ensures;
        free = search rules;
        pairs = subst (λ (n : ℕ). RatesPair (messages_of c.args.self.now) new send n 1 true) c.in_ok-sought.ensures.index
            (subst (λ (l : List Message). RatesPair l new send c.in_ok-sought.sought.index 1 true) same both.0);
      },
      ap (λ (p : Pairing). p.news) both.1 ∙ ap (λ (p : Pairing). p.news) c.in_ok-sought.ensures.same,
    ))
    (on_ok_both _ _ c.keep_pair.result c.keep_pair.ensures.pair c.keep_pair.ensures.same)
