use Rattle.std.proofs.Common.{length, sym, ap}
use Rattle.claim_board.specs.declared.job.Job.{Job}
use Rattle.process_ledgers.specs.Processes.{processes_of}
use Rattle.audit_join.proofs.LookJobs.{job_is, within_count}
use Rattle.audit_join.proofs.look_work.LookWorkWork.start.Goals as goal

pub returns : goal.returns
returns c =
    let count = length (processes_of c.args.self.now.look.now) in
    sym (ap (λ (job : Job). job.start) (job_is count c.args.i (within_count count c.args.i c.requires)))
