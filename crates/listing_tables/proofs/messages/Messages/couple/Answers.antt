use Rattle.std.proofs.lemmas.Result.{on_ok_weaker}
use Rattle.listing_tables.proofs.messages.Messages.couple.Goals as goal

pub returns : goal.returns
returns c =
    on_ok_weaker c.set_partner-2.result
    (λ second. record { between = c.set_partner.new.self.list.all.items; first = c.in_ok-set_partner.ensures; second = second })
    c.set_partner-2.ensures
