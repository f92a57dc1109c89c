use Rattle.std.proofs.Common.{◌-◌, length}
use Rattle.claim_board.specs.Work.{IsFree, AreResults, IsForSame, next_above, earlier_jobs}
use Rattle.claim_board.proofs.worker.work_alone.Given as goal

abbrev pub invariant-loop-i : goal.invariant-loop-i
invariant-loop-i g l =
    record {
      free : IsFree (g.W.Work.listed l.work) l.seat.me.0;
      results : AreResults (g.W.Work.gives l.work) l.seat.me.0.claimed l.results.items;
      same : IsForSame l.initial.seat l.seat;
    }

abbrev pub decreases-loop-i : goal.decreases-loop-i
decreases-loop-i g l = length (g.W.Work.listed l.work) - next_above l.seat.me.0.claimed

abbrev pub ghost-end_job : goal.ghost-end_job
ghost-end_job g a = earlier_jobs a.seat.now.me.0.claimed
