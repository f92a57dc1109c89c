use Rattle.std.proofs.Common.{ℕ, Option, refl, subst, arith, inl, inr, rules}
use Rattle.listing_tables.proofs.BufferSums.{all_turns, FreeTurns, no_turn, one_turn}
use Rattle.listing_tables.proofs.buffers.Buffers.free.Goals as goal

pub loop-init : goal.loop-init
loop-init c =
    let next = c.swap_remove-next in
    record {
      end = search rules;
      turned = no_turn c.args.key c.args.place c.args.self.now _ next.result next.ensures.value refl next.ensures.updates.0;
    }

pub loop-preserved : goal.loop-preserved
loop-preserved c =
    let turned = subst (λ (o : Option ℕ). FreeTurns c.args.key c.args.place c.args.self.now c.loop.self o c.loop.counter) c.in-Some.is c.loop.invariant.turned in
    record {
      end = c.loop.invariant.end;
      turned = one_turn c.args.key c.args.place c.args.self.now c.loop.self c.free_one.new.self c.in-Some.index c.loop.counter c.in_ok-next.next turned
          c.in_ok-next.ensures;
    }

pub returns-after-loop : goal.returns-after-loop
returns-after-loop c =
    let end = c.loop.invariant.end in
    let past = c.loop-test.false in
    all_turns c.args.key c.args.place c.args.self.now c.loop.self c.loop.next c.loop.counter c.loop.invariant.turned (inr (omega (arith, end, past)))

pub returns-in_default : goal.returns-in_default
returns-in_default c =
    all_turns c.args.key c.args.place c.args.self.now c.loop.self c.loop.next c.loop.counter c.loop.invariant.turned (inl c.in_default.is)
