use Rattle.std.proofs.lemmas.Result.{on_ok_weaker}
use Rattle.listing_tables.proofs.CertaintyLaws.{no_fit, one_fit}
use Rattle.listing_tables.proofs.certainty.Evidence.look_at.Goals as goal

pub returns-in-None : goal.returns-in-None
returns-in-None c =
    no_fit c.args.self.now c.args.sought.now c.args.fitting.now c.args.look (c.in_ok-ranked.ensures.none c.in-None.is)

pub returns-in-Some : goal.returns-in-Some
returns-in-Some c =
    let is = rw c.in-Some.is at c.in_ok-ranked.ensures.fit in
    let rank = rw c.in-Some.is at c.in_ok-ranked.ensures.rank in
    on_ok_weaker c.add.result
    (λ added.
    one_fit c.args.self.now c.args.sought.now c.args.fitting.now c.add.new.self c.args.look c.in-Some.ranked.rank
    c.in-Some.ranked.fit added is rank)
    c.add.ensures
