use Rattle.std.proofs.Common.{◌∷◌, ◌++◌, []}
use Rattle.std.proofs.lemmas.Result.{on_ok_weaker}
use Rattle.std.specs.Ordering.{eq_by_cmp}
use Rattle.summary_law.proofs.ReadLaws.{each_short}
use Rattle.pending_ledger.proofs.pending.PendingSummary.add.Goals as goal

pub add-requires : goal.add-requires
add-requires g c =
    let items = c.requires.0 in
    (items, c.requires.1.0, each_short (eq_by_cmp g.K.Ord.cmp) (items ++ c.args.item ∷ []) c.requires.2.0)

pub returns : goal.returns
returns g c =
    on_ok_weaker c.add.result
    (λ adds items sums fits. (adds items sums.0 (each_short (eq_by_cmp g.K.Ord.cmp) (items ++ c.args.item ∷ []) fits.0), fits)) c.add.ensures
