use Rattle.std.proofs.Common.{◌++◌, ap, map, subst, ◌∙◌, rules}
use Rattle.std.proofs.lemmas.List.{take_all}
use Rattle.std.proofs.lemmas.List.Sorted.{IsNonDecreasingBy-from_sort_by_key}
use Rattle.std.specs.List.Sorted.{IsPermutation}
use Rattle.call_stacks.specs.Calls.{open_call, opener_place}
use Rattle.call_stacks.proofs.calls.in_order.Goals as goal

pub returns-clause-moved : goal.returns-clause-moved
returns-clause-moved g c =
    subst (λ l. IsPermutation l c.sort_unstable_by_key.new.self.items)
    (c.loop-event.invariant
    ∙ ap (λ l. c.args.closed.items ++ map open_call l) (take_all c.loop-event.event-index c.args.unmatched.now c.loop-event-test.false))
    c.sort_unstable_by_key.ensures.permutation

pub returns-clause-sorted : goal.returns-clause-sorted
returns-clause-sorted g c =
    IsNonDecreasingBy-from_sort_by_key (opener_place g.E.CallRecord.reads) _ c.sort_unstable_by_key.ensures.sorted (λ a r q k. search rules)
