use Rattle.std.proofs.Common.{refl}
use Rattle.std.proofs.lemmas.Result.{on_ok_weaker}
use Rattle.listing_tables.proofs.pairs.Pairing.pair.Goals as goal

pub returns : goal.returns
returns c =
    on_ok_weaker c.pair_replies.result
    (λ replies. record {
      begun = record c.args.self.now { meanings = c.begin.new.self };
      same = refl;
      alike = c.begin.ensures.same;
      begins = c.in_ok-begin.ensures.begins;
      walked = c.walk_on.new.self;
      walks = c.in_ok-walk_on.ensures;
      kept = c.keep_guesses.new.self;
      keeps = c.in_ok-keep_guesses.ensures;
      replies = replies;
    })
    c.pair_replies.ensures
