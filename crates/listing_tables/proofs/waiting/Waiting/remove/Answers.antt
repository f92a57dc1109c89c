use Rattle.listing_tables.proofs.WaitingLaws.{fewer_wait, none_waits, others_wait}
use Rattle.listing_tables.proofs.waiting.Waiting.remove.Goals as goal

pub returns-clause-waits : goal.returns-clause-waits
returns-clause-waits c =
    others_wait c.args.self.now.untaken c.remove.new.self c.args.self.now.guessed c.remove-2.new.self (c.args.send.key, c.args.send.list, c.args.send.index)
    c.remove.ensures.updates c.remove-2.ensures.updates

pub returns-clause-gone : goal.returns-clause-gone
returns-clause-gone c = none_waits _ _ c.remove.ensures.updates.1 c.remove-2.ensures.updates.1

pub returns-clause-fewer : goal.returns-clause-fewer
returns-clause-fewer c = λ other h.
    fewer_wait c.args.self.now.untaken c.remove.new.self c.args.self.now.guessed c.remove-2.new.self (c.args.send.key, c.args.send.list, c.args.send.index)
    c.remove.ensures.updates c.remove-2.ensures.updates other h
