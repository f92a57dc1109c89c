use Rattle.std.proofs.Common.{◌++◌}
use Rattle.std.specs.Ordering.{eq_by_cmp, nat_cmp}
use Rattle.handle_ledger.proofs.handles.HandleLedgerSummary.join.Goals as goal
use Rattle.summary_law.proofs.ReadLaws.{each_short}

pub join-requires : goal.join-requires
join-requires c =
    (c.requires.0, c.requires.1, c.requires.2, c.requires.3, each_short (eq_by_cmp nat_cmp) (c.requires.0 ++ c.requires.1) c.requires.4)

pub returns : goal.returns
returns c = λ first second mine theirs fits. c.in_ok-handles.ensures first second mine theirs (each_short (eq_by_cmp nat_cmp) (first ++ second) fits)
