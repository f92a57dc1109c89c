use Rattle.std.proofs.Common.{arith, ◌≡◌, ◌++◌, [], map, sym, ap, ◌∙◌, rules}
use Rattle.std.proofs.lemmas.Grind.{common_steps}
use Rattle.std.proofs.lemmas.List.{append-nil}
use Rattle.std.specs.BTreeMap.{IsOrdered}
use Rattle.handle_ledger.proofs.NodeLaws.{entry_row, rows_are}
use Rattle.handle_ledger.proofs.nodes.NodeLedger.rows.Goals as goal
use Rattle.handle_ledger.specs.Nodes.{node_cmp}

pub returns : goal.returns
returns c = λ items sums.
    let entries = c.args.self.now.nodes in
    let ordered : IsOrdered node_cmp entries = c.into_iter-key-iterator.ensures.into_iter_gives.1 in
    let rest : c.loop-key.key-iterator ≡ [] = search rules in
    let whole : c.loop-key.rows.items ≡ map entry_row entries.entries
    = sym (append-nil c.loop-key.rows.items) ∙ sym (ap (λ es. c.loop-key.rows.items ++ map entry_row es) rest) ∙ c.loop-key.invariant in
    whole ∙ rows_are entries ordered items sums

pub loop-key-preserved : goal.loop-key-preserved
loop-key-preserved c = grind (arith, common_steps)
