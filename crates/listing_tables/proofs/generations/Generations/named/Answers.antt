use Rattle.std.proofs.Common.{ℕ, inl, inr, refl, subst, rules}
use Rattle.std.proofs.lemmas.Result.{IfOk-weaker}
use Rattle.listing_tables.specs.Naming.{Begins}
use Rattle.listing_tables.proofs.generations.Generations.named.Goals as goal

pub returns-in_default : goal.returns-in_default
returns-in_default c = IfOk-weaker c.begin.result _ _ (λ index begins. inr (inr (search rules, begins))) c.begin.ensures

pub returns-then-is_none : goal.returns-then-is_none
returns-then-is_none c =
    inl (record {
      latest = search rules;
      generation = c.in_ok-latest.latest;
      there = c.in_ok-latest.ensures;
      lives = inl (search rules);
      same = refl;
    })

pub returns-then-not-gives : goal.returns-then-not-gives
returns-then-not-gives c =
    inl (record {
      latest = search rules;
      generation = c.in_ok-latest.latest;
      there = c.in_ok-latest.ensures;
      lives = inr (search rules);
      same = refl;
    })

pub returns : goal.returns
returns c =
    let old = c.args.self.now in
    let new = c.begin-2.new.self in
    IfOk-weaker c.begin-2.result _ _
    (λ index begins. inr (inl (record {
      before = c.in-Some.index;
      latest = search rules;
      generation = c.in_ok-latest.latest;
      there = c.in_ok-latest.ensures;
      ended = search rules;
      given = search rules;
      begins = subst (λ (n : ℕ). Begins old c.args.upid c.args.handle n c.args.place new index) c.in_ok-number.ensures begins;
    })))
    c.begin-2.ensures
