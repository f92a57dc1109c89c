use Rattle.std.proofs.Common.{refl}
use Rattle.std.proofs.lemmas.Result.{on_ok_weaker}
use Rattle.listing_tables.proofs.BufferSums.{one_more_buffer}
use Rattle.listing_tables.proofs.buffers.Buffers.deliver.Goals as goal

pub returns-clause-sums : goal.returns-clause-sums
returns-clause-sums c =
    let old = c.args.self.now in
    let new = record old { list = c.push.new.self; latest = c.insert.new.self } in
    on_ok_weaker c.push.result
    (λ pushed.
    one_more_buffer c.args.key c.args.buffer.place old new _ c.in_ok-index.index pushed refl c.in_ok-earlier.ensures.old c.in_ok-index.ensures
    c.in_ok-earlier.ensures.updates.0)
    c.push.ensures.last
