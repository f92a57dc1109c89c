use Rattle.std.proofs.Common.{◌+◌, inr, arith, rules}
use Rattle.listing_tables.specs.Turns.{WalksAt}
use Rattle.listing_tables.proofs.TurnLaws.{each_more}
use Rattle.listing_tables.proofs.pairs.Pairing.walk_on.Goals as goal

pub loop-walk-preserved : goal.loop-walk-preserved
loop-walk-preserved c =
    each_more WalksAt c.args.self.now c.loop-walk.self c.walk.new.self c.loop-walk.walk c.loop-walk.invariant c.in_ok-walk.ensures

pub returns-then-walk-gt0 : goal.returns-then-walk-gt0
returns-then-walk-gt0 c =
    let more = c.loop-walk-test.true in (
      c.loop-walk.walk + 1,
      omega (arith),
      omega (arith, more),
      each_more WalksAt c.args.self.now c.loop-walk.self c.walk.new.self c.loop-walk.walk c.loop-walk.invariant c.in_ok-walk.ensures,
      inr (search rules),
    )
