use Rattle.std.proofs.Common.{◌≡◌, ◌++◌, refl, ap, sym, subst, map, ◌∙◌}
use Rattle.std.specs.List.Sorted.{IsPermutation}
use Rattle.std.specs.Option.{option_to_list}
use Rattle.call_stacks.specs.Calls.{open_call}
use Rattle.call_stacks.proofs.Joins.{finished}
use Rattle.call_stacks.proofs.Sums.{holds}
use Rattle.call_stacks.proofs.calls.Calls.finish.Goals as goal
use Rattle.call_stacks.proofs.calls.Calls.finish.Goals.{in-Some+in_ok-insert, in_default}

pub returns : goal.returns
returns g c = λ events sums.
    let reads = g.E.CallRecord.reads in
    let all_kept = g.E.CallRecord.all_kept in
    let calls = c.args.self in
    let strays_are : c.match-undecided.strays.items ≡ option_to_list calls.undecided ++ calls.strays.items
    = elim c.match-undecided.branch [
      | in-Some+in_ok-insert w ↦
          ap (λ v. v.items) w.strays-is ∙ w.in_ok-insert.ensures.items ∙ ap (λ o. option_to_list o ++ calls.strays.items) (sym w.in-Some.is)
      | in_default w ↦ ap (λ v. v.items) w.strays-is ∙ ap (λ o. option_to_list o ++ calls.strays.items) (sym w.in_default.is)
    ]
    in
    finished reads all_kept calls _ events (holds reads all_kept calls events sums)
    (subst (λ l. IsPermutation (calls.closed.items ++ map open_call l) c.in_ok-openers.openers.items) c.deref.ensures.value c.in_ok-openers.ensures.moved)
    c.in_ok-openers.ensures.sorted refl refl strays_are refl
