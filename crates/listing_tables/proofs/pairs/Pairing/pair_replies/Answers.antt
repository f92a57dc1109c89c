use Rattle.std.proofs.Common.{arith}
use Rattle.listing_tables.specs.Turns.{PairsIfReplied, count_of}
use Rattle.listing_tables.proofs.TurnLaws.{each_all, each_more}
use Rattle.listing_tables.proofs.pairs.Pairing.pair_replies.Goals as goal

pub loop-index-preserved : goal.loop-index-preserved
loop-index-preserved c =
    each_more PairsIfReplied c.args.self.now c.loop-index.self c.pair_reply.new.self c.loop-index.index c.loop-index.invariant
    (c.in_ok-pair_reply.ensures.same, c.in_ok-pair_reply.ensures.pairs)

pub returns : goal.returns
returns c =
    let past = c.loop-index-test.false in
    let upto = c.loop-index.auto.index-end in
    let end = c.in_ok-index-end.ensures in
    each_all PairsIfReplied c.args.self.now c.loop-index.self c.loop-index.index (count_of c.args.self.now)
    (omega (arith, past, end)) (omega (arith, upto, end)) c.loop-index.invariant
