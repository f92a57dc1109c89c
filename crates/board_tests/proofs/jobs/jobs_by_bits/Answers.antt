use Rattle.std.proofs.Common.{rules, refl, ◌+◌, ◌*◌}
use Rattle.claim_board.specs.declared.job.Job.{Job}
use Rattle.board_tests.proofs.Spacing.{spaced_push, spaced_are_jobs}
use Rattle.board_tests.proofs.jobs.jobs_by_bits.Goals as goal

pub loop-i-preserved : goal.loop-i-preserved
loop-i-preserved c =
    let s = c.loop-i.invariant in
    let job : Job = record { start = 16 * (c.loop-i.i + 1); fault = c.fault_by_bit-fault.result } in
    spaced_push c.loop-i.jobs.items c.push.new.self.items c.loop-i.i job (search rules) s.1 s.0 refl c.fault_by_bit-fault.ensures

pub returns-clause-jobs : goal.returns-clause-jobs
returns-clause-jobs c = spaced_are_jobs 0 c.loop-i.jobs.items c.loop-i.invariant.0
