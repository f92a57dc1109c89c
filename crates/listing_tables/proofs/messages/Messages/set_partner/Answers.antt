use Rattle.std.proofs.lemmas.Result.{on_ok_weaker}
use Rattle.listing_tables.proofs.messages.Messages.set_partner.Goals as goal

pub returns : goal.returns
returns c =
    on_ok_weaker c.set.result (λ put. record { before = c.in_ok-message.message; there = c.in_ok-message.ensures; are = put }) c.set.ensures
