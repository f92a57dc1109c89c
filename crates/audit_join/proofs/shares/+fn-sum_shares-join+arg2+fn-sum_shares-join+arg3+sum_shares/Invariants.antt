use Rattle.audit_join.proofs.shares.+fn-sum_shares-join+arg2+fn-sum_shares-join+arg3+sum_shares.Given as goal

abbrev pub decreases-join+arg2 : goal.decreases-join+arg2
decreases-join+arg2 g l = l.some

abbrev pub decreases-join+arg3 : goal.decreases-join+arg3
decreases-join+arg3 g l = l.others

abbrev pub decreases-sum_shares : goal.decreases-sum_shares
decreases-sum_shares g l = l.workers
