use Rattle.std.proofs.Common.{ap, sym, arith}
use Rattle.claim_board.specs.declared.job.Job.{Job}
use Rattle.board_tests.proofs.Spacing.{length-spaced, spaced_here}
use Rattle.board_tests.proofs.jobs.ExcerptsWork.start.Goals as goal

pub overflow_add-result : goal.overflow_add-result
overflow_add-result c =
    let w = c.args.self.now in let l = length-spaced w.low w.high 0 w.jobs in let r = c.requires in let f = w.few in omega arith

pub overflow_mul-result : goal.overflow_mul-result
overflow_mul-result c =
    let w = c.args.self.now in let l = length-spaced w.low w.high 0 w.jobs in let r = c.requires in let f = w.few in omega arith

pub returns : goal.returns
returns c = let w = c.args.self.now in sym (ap (λ (job : Job). job.start) (spaced_here w.low w.high w.jobs c.args.i c.requires))
