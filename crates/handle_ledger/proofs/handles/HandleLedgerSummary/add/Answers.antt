use Rattle.std.proofs.Common.{◌∷◌, ◌++◌, []}
use Rattle.std.proofs.lemmas.Result.{on_ok_weaker}
use Rattle.std.specs.Ordering.{eq_by_cmp, nat_cmp}
use Rattle.handle_ledger.proofs.handles.HandleLedgerSummary.add.Goals as goal
use Rattle.summary_law.proofs.ReadLaws.{each_short}

pub add-requires : goal.add-requires
add-requires c = (c.requires.0, c.requires.1, each_short (eq_by_cmp nat_cmp) (c.requires.0 ++ c.args.item ∷ []) c.requires.2)

pub returns : goal.returns
returns c =
    on_ok_weaker c.add.result (λ adds items sums fits. adds items sums (each_short (eq_by_cmp nat_cmp) (items ++ c.args.item ∷ []) fits)) c.add.ensures
