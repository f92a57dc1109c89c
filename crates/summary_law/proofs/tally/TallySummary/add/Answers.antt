use Rattle.std.proofs.Common.{◌∷◌, ◌++◌, []}
use Rattle.std.proofs.lemmas.Result.{on_ok_weaker}
use Rattle.std.specs.Ordering.{eq_by_cmp}
use Rattle.summary_law.proofs.ReadLaws.{each_short}
use Rattle.summary_law.proofs.tally.TallySummary.add.Goals as goal

pub add-requires : goal.add-requires
add-requires g c = (c.requires.0, c.requires.1, each_short (eq_by_cmp g.K.Ord.cmp) (c.requires.0 ++ c.args.item ∷ []) c.requires.2)

pub returns : goal.returns
returns g c =
    on_ok_weaker c.add.result
    (λ adds items sums fits. adds items sums (each_short (eq_by_cmp g.K.Ord.cmp) (items ++ c.args.item ∷ []) fits))
    c.add.ensures
