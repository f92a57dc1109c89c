use Rattle.std.proofs.Common.{List, true, refl, ap, subst}
use Rattle.std.proofs.lemmas.Result.{on_ok_weaker}
use Rattle.listing_tables.specs.Changes.{Rates}
use Rattle.listing_tables.specs.Pairing.{messages_of}
use Rattle.listing_tables.specs.declared.messages.Message.{Message}
use Rattle.listing_tables.proofs.PairLaws.{on_ok_always}
use Rattle.listing_tables.proofs.pairs.Pairing.make_pair.Goals as goal

pub returns-clause-pair : goal.returns-clause-pair
returns-clause-pair c =
    let rated = c.rate.new.self.list.all.items in
    on_ok_weaker c.couple.result
    (λ couples. record {
      between = rated;
      rates = subst (λ (l : List Message). Rates l rated c.args.index 1 true) (ap messages_of c.in_ok-learn_target.ensures.same) c.in_ok-rate.ensures;
      couples = couples;
    })
    c.couple.ensures

pub returns-clause-learnt : goal.returns-clause-learnt
returns-clause-learnt c =
    on_ok_always c.couple.result (record {
      sent = c.in_ok-sent.sent;
      sends = c.in_ok-sent.ensures;
      gaps = c.in_ok-gaps.field-0.gaps;
      after = (c.in_ok-gaps.field-0, c.in_ok-gaps.ensures, refl);
      learns = c.in_ok-learn_target.ensures.learnt;
    })
