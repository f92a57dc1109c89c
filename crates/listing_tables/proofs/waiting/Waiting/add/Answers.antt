use Rattle.listing_tables.proofs.WaitingLaws.{more_wait}
use Rattle.listing_tables.proofs.waiting.Waiting.add.Goals as goal

pub returns-clause-kept : goal.returns-clause-kept
returns-clause-kept c =
    more_wait c.args.self.now.untaken c.insert.new.self c.args.self.now.guessed (c.args.send.key, c.args.send.list, c.args.send.index) c.in_ok-insert.ensures.updates
