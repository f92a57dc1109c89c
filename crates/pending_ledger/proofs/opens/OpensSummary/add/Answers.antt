use Rattle.std.proofs.Common.{refl, rules}
use Rattle.pending_ledger.proofs.SumLaws.{opened_sums, closed_sums}
use Rattle.pending_ledger.proofs.opens.OpensSummary.add.Goals as goal

pub returns-in_ok-push-in-Open : goal.returns-in_ok-push-in-Open
returns-in_ok-push-in-Open c = λ items sums fits.
    opened_sums c.args.self.now (record { places = c.push.new.self; has_close = c.args.self.now.has_close }) items c.args.item (search rules)
    c.in_ok-push-in-Open.ensures refl sums

pub returns-in-Close : goal.returns-in-Close
returns-in-Close c = λ items sums fits.
    closed_sums (record { places = c.new.result; has_close = _ }) items c.args.item (search rules) c.new.ensures refl
