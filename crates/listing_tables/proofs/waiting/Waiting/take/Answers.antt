use Rattle.std.proofs.lemmas.Result.{on_ok_weaker}
use Rattle.listing_tables.specs.Waiting.{entry_of, waits}
use Rattle.listing_tables.proofs.DoubtLaws.{counts_from}
use Rattle.listing_tables.proofs.WaitingLaws.{still_gone}
use Rattle.listing_tables.proofs.waiting.Waiting.take.Goals as goal

pub returns-clause-gone : goal.returns-clause-gone
returns-clause-gone c =
    on_ok_weaker c.leave.result
    (λ fewer. still_gone (waits c.leave.new.self (entry_of c.args.send)) (waits c.remove.new.self (entry_of c.args.send))
    (fewer (entry_of c.args.send)) c.remove.ensures.gone)
    c.leave.ensures.fewer

pub returns-clause-counted : goal.returns-clause-counted
returns-clause-counted c =
    on_ok_weaker c.leave.result
    (counts_from c.args.self.now c.remove.new.self c.leave.new.self c.args.send 0 c.remove.ensures.doubted c.remove.ensures.doubts)
    c.leave.ensures.counted
