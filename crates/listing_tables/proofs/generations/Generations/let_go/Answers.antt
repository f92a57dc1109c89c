use Rattle.std.proofs.Common.{refl}
use Rattle.std.proofs.lemmas.Result.{on_ok_weaker}
use Rattle.listing_tables.proofs.generations.Generations.let_go.Goals as goal

pub returns : goal.returns
returns c =
    on_ok_weaker c.set.result
    (λ put. record {
      before = c.in_ok-before.before;
      there = c.in_ok-before.ensures;
      after = c.let_go.new.self;
      are = put;
      latest = refl;
      same = c.in_ok-let_go.ensures.same;
      ends = c.in_ok-let_go.ensures.ends;
      taken = c.in_ok-let_go.ensures.taken;
      held = c.in_ok-let_go.ensures.held;
      given = c.in_ok-let_go.ensures.given;
    })
    c.set.ensures
