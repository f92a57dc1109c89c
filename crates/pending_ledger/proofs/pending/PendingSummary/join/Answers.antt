use Rattle.std.proofs.Common.{◌++◌}
use Rattle.std.specs.Ordering.{eq_by_cmp}
use Rattle.summary_law.proofs.ReadLaws.{each_short}
use Rattle.pending_ledger.proofs.pending.PendingSummary.join.Goals as goal

pub join-requires : goal.join-requires
join-requires g c =
    let first = c.requires.0 in
    let second = c.requires.1 in
    (first, second, c.requires.2.0, c.requires.3.0, each_short (eq_by_cmp g.K.Ord.cmp) (first ++ second) c.requires.4.0)

pub returns : goal.returns
returns g c = λ first second mine theirs fits. (
  c.in_ok-keys.ensures first second mine.0 theirs.0 (each_short (eq_by_cmp g.K.Ord.cmp) (first ++ second) fits.0),
  fits,
)
