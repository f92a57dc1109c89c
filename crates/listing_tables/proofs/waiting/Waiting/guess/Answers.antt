use Rattle.listing_tables.proofs.WaitingLaws.{moved_wait}
use Rattle.listing_tables.proofs.waiting.Waiting.guess.Goals as goal

pub returns-in_ok-insert-clause-kept : goal.returns-in_ok-insert-clause-kept
returns-in_ok-insert-clause-kept c =
    moved_wait c.args.self.now.untaken c.remove.new.self c.args.self.now.guessed c.insert.new.self (c.args.send.key, c.args.send.list, c.args.send.index)
    c.remove.ensures.updates c.in_ok-insert.ensures.updates
