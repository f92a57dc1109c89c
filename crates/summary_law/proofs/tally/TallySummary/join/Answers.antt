use Rattle.std.proofs.Common.{◌++◌}
use Rattle.std.specs.Ordering.{eq_by_cmp}
use Rattle.summary_law.proofs.ReadLaws.{each_short}
use Rattle.summary_law.proofs.tally.TallySummary.join.Goals as goal

pub join-requires : goal.join-requires
join-requires g c =
    (c.requires.0, c.requires.1, c.requires.2, c.requires.3, each_short (eq_by_cmp g.K.Ord.cmp) (c.requires.0 ++ c.requires.1) c.requires.4)

pub returns : goal.returns
returns g c = λ first second mine theirs fits.
    c.in_ok-amounts.ensures first second mine theirs (each_short (eq_by_cmp g.K.Ord.cmp) (first ++ second) fits)
