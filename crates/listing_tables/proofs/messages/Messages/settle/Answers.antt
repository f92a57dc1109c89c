use Rattle.std.proofs.Common.{refl}
use Rattle.std.proofs.lemmas.Result.{on_ok_weaker}
use Rattle.listing_tables.specs.Changes.{settled_as}
use Rattle.listing_tables.proofs.ChangeLaws.{sent_changed}
use Rattle.listing_tables.proofs.messages.Messages.settle.Goals as goal

pub returns : goal.returns
returns c =
    on_ok_weaker c.set.result
    (λ put. sent_changed c.args.self.now.list.all.items c.set.new.self.list.all.items c.args.index c.in_ok-sent.sent _
    (settled_as c.args.settled) c.in_ok-sent.ensures refl put)
    c.set.ensures
