use Rattle.std.proofs.Common.{◌≡◌, Some, None, rules}
use Rattle.std.proofs.lemmas.Result.{on_ok_weaker}
use Rattle.summary_law.proofs.FedLaws.{can_add_picked, picked_added, nothing_added}
use Rattle.summary_law.proofs.fed.FedSummary.add.Goals as goal

pub add-requires : goal.add-requires
add-requires g c =
    let is : g.R.Picks.picks c.args.item ≡ Some c.in-Some.found = search rules in
    can_add_picked g.R.Picks.picks g.S.Summary.sums g.S.Summary.fits c.args.self.now.own c.args.item c.in-Some.found is c.requires

pub returns-in-Some : goal.returns-in-Some
returns-in-Some g c =
    let is : g.R.Picks.picks c.args.item ≡ Some c.in-Some.found = search rules in
    on_ok_weaker c.add.result (λ adds. picked_added g.R.Picks.picks g.S.Summary.sums g.S.Summary.fits c.args.self.now.own c.add.new.self c.args.item c.in-Some.found is adds)
    c.add.ensures

pub returns-in-None : goal.returns-in-None
returns-in-None g c =
    let is : g.R.Picks.picks c.args.item ≡ None = search rules in
    nothing_added g.R.Picks.picks g.S.Summary.sums g.S.Summary.fits c.args.self.now.own c.args.item is
