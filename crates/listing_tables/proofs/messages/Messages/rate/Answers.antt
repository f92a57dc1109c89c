use Rattle.std.proofs.Common.{ℕ, sym, ap}
use Rattle.std.proofs.lemmas.Result.{on_ok_weaker}
use Rattle.listing_tables.specs.Changes.{rated_as}
use Rattle.listing_tables.specs.declared.messages.Detail.TheVariants.{Sent as IsSent}
use Rattle.listing_tables.proofs.ChangeLaws.{sent_changed}
use Rattle.listing_tables.proofs.messages.Messages.rate.Goals as goal

pub returns : goal.returns
returns c =
    let sent = c.in_ok-sent.sent in
    on_ok_weaker c.set.result
    (λ put. sent_changed c.args.self.now.list.all.items c.set.new.self.list.all.items c.args.index sent _
    (rated_as c.args.fits c.args.certain) c.in_ok-sent.ensures
    (ap (λ (n : ℕ). IsSent (record sent { fits = n; certain = c.args.certain })) (sym c.in_ok-count.ensures)) put)
    c.set.ensures
