use Rattle.std.proofs.Common.{◌≡◌, ⊎_elim, inl, inr, sym, subst, IsTrue}
use Rattle.std.specs.BTreeSet.{BTreeSet, contains}
use Rattle.listing_tables.specs.Waiting.{Entry, entry_cmp, entry_of, in_doubt}
use Rattle.listing_tables.proofs.DoubtLaws.{none_left, some_left}
use Rattle.listing_tables.proofs.WaitingLaws.{was_there}
use Rattle.listing_tables.proofs.waiting.Waiting.forget.Goals as goal

pub loop-preserved : goal.loop-preserved
loop-preserved c =
    let send = c.in-Some.send in
    let here = c.in-Some.ensures in
    record {
      wait = λ other h. ⊎_elim
          (λ w. ⊎_elim inl
          (λ (is : other ≡ entry_of send). inr (subst (λ (o : Entry). (o.0 ≡ c.args.key) × IsTrue (in_doubt c.args.self.now o)) (sym is)
          (here.0, c.loop.invariant.doubted (entry_of send) here.1)))
          (c.remove-in-loop.ensures.waits other w))
          inr
          (c.loop.invariant.wait other h);
      fewer = λ other h. c.loop.invariant.fewer other (c.remove-in-loop.ensures.fewer other h);
      gone = rw c.remove-in-loop.ensures.doubts c.loop.invariant.gone;
      doubted = λ other h. c.loop.invariant.doubted other
          (was_there c.loop.self.doubted c.remove.new.self (send.key, send.index, send.list) c.remove.ensures.updates (other.0, other.2, other.1)
          (subst (λ (d : BTreeSet Entry). IsTrue (contains entry_cmp d (other.0, other.2, other.1))) c.remove-in-loop.ensures.doubted h));
    }

pub returns-then-doubt-clause-counted : goal.returns-then-doubt-clause-counted
returns-then-doubt-clause-counted c = some_left c.args.self.now c.args.key c.doubt_of-doubt.result c.doubt_of-doubt.ensures c.if-doubt.true

pub returns-in_default-clause-counted : goal.returns-in_default-clause-counted
returns-in_default-clause-counted c =
    none_left c.args.self.now c.loop.self c.args.key c.doubt_of-doubt.result c.doubt_of-doubt.ensures c.if-doubt.false c.loop.invariant.gone

pub returns-clause-counted : goal.returns-clause-counted
returns-clause-counted c =
    none_left c.args.self.now c.loop.self c.args.key c.doubt_of-doubt.result c.doubt_of-doubt.ensures c.if-doubt.false c.loop.invariant.gone
