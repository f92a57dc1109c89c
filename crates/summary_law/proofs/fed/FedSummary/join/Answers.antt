use Rattle.summary_law.proofs.FedLaws.{can_join_picked, picked_joined}
use Rattle.summary_law.proofs.fed.FedSummary.join.Goals as goal

pub join-requires : goal.join-requires
join-requires g c = can_join_picked g.R.Picks.picks g.S.Summary.sums g.S.Summary.fits c.args.self.own c.args.later.own c.requires

pub returns : goal.returns
returns g c = picked_joined g.R.Picks.picks g.S.Summary.sums g.S.Summary.fits c.args.self.own c.args.later.own c.in_ok-own.own c.in_ok-own.ensures
