use Rattle.std.proofs.Common.{refl, sym, subst}
use Rattle.std.proofs.lemmas.Result.{on_ok_weaker}
use Rattle.listing_tables.specs.Steps.{KeepsAll}
use Rattle.listing_tables.proofs.PairLaws.{on_ok_always}
use Rattle.listing_tables.proofs.tables.Tables.finish.Goals as goal

pub returns-clause-calls : goal.returns-clause-calls
returns-clause-calls g c = on_ok_always c.pair_all.result (record { messages = _; written = c.in_ok-write_calls.ensures })

pub returns-clause-found : goal.returns-clause-found
returns-clause-found g c = on_ok_always c.pair_all.result (λ marked kept. record {
  threads = c.replace-steps.result.entries.entries;
  kept = subst (λ steps. KeepsAll steps.entries.entries marked) (sym c.replace-steps.ensures.value) kept;
  are = c.in_ok-self.ensures.moved;
  sorted = c.in_ok-self.ensures.sorted;
})

pub returns-clause-paired : goal.returns-clause-paired
returns-clause-paired g c = on_ok_weaker c.pair_all.result
    (λ pairs. record {
      before = c.follow.new.self;
      after = c.pair_all.new.traffic;
      pairs = pairs;
      messages = refl;
      buffers = refl;
      generations = refl;
    })
    c.pair_all.ensures
