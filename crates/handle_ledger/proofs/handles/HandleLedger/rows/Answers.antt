use Rattle.std.proofs.Common.{◌≡◌, ◌++◌, [], sym, ap, ◌∙◌, rules}
use Rattle.std.proofs.lemmas.List.{append-nil}
use Rattle.std.specs.BTreeMap.{IsOrdered}
use Rattle.std.specs.Ordering.{nat_cmp}
use Rattle.handle_ledger.proofs.HandleLaws.{rows_are}
use Rattle.handle_ledger.proofs.handles.HandleLedger.rows.Goals as goal

pub returns : goal.returns
returns c = λ items sums.
    let entries = c.args.self.now.handles in
    let ordered : IsOrdered nat_cmp entries = c.into_iter-handle-iterator.ensures.into_iter_gives.1 in
    let rest : c.loop-handle.handle-iterator ≡ [] = search rules in
    sym (append-nil c.loop-handle.rows.items) ∙ sym (ap (λ es. c.loop-handle.rows.items ++ es) rest) ∙ c.loop-handle.invariant
    ∙ rows_are entries ordered items sums
