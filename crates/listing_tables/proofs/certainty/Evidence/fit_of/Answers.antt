use Rattle.listing_tables.proofs.CertaintyLaws.{other_call}
use Rattle.listing_tables.proofs.certainty.Evidence.fit_of.Goals as goal

pub returns-clause-rank : goal.returns-clause-rank
returns-clause-rank c =
    other_call c.args.self.now c.args.sought.now c.args.look.listed.index c.in_ok-send.send c.in-Sent.sent c.in_ok-rank.rank
    c.in_ok-send.ensures c.in-Sent.is c.in_ok-rank.ensures
