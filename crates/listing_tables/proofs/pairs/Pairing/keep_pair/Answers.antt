use Rattle.std.proofs.Common.{List, ◌≡◌, true, sym, ap, subst, ◌∙◌}
use Rattle.listing_tables.specs.Changes.{RatesPair}
use Rattle.listing_tables.specs.Pairing.{messages_of}
use Rattle.listing_tables.specs.declared.messages.Message.{Message}
use Rattle.listing_tables.proofs.PairLaws.{on_ok_always}
use Rattle.listing_tables.proofs.pairs.Pairing.keep_pair.Goals as goal

pub returns-clause-pair : goal.returns-clause-pair
returns-clause-pair c =
    let old = messages_of c.args.self.now in
    let last : messages_of c.learn_answer.new.self ≡ messages_of c.make_pair.new.self
    = ap messages_of c.learn_answer.ensures ∙ ap messages_of c.in_ok-learn_objects.ensures in
    on_ok_always c.learn_answer.result
    (subst (λ (l : List Message). RatesPair old l c.args.index c.args.sought.now.index 1 true) (sym last) c.in_ok-make_pair.ensures.pair)
